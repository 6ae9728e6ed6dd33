-- What rules 9, 10, 12 and 13 ask of the fields that calls alter, and that each call keeps it. Assumes nothing.
use mathlib.Core.Path.{◌≡◌, refl, sym, ◌∙◌}
use mathlib.Core.Bool.{Bool, true, false, cond, ◌&&◌}
use mathlib.Core.Logic.{◌⊎◌, inl, inr, ⊎_elim}
use Prim.Native.Nat.{ℕ, ◌+◌, ◌%◌, ◌≤◌, ◌<◌}
use native.Mathlib.Nat.{mod-eq_of_lt, mod_self}
use native.Mathlib.Omega.{arith}
use borrow.Author.Tests.{eqb-true, eq-eqb, ne_eqb, lt-ltb}
use lib.Dec.{eqb}
use Rattle.fields.proofs.Tests.{no_true, either, le_or_lt}
use Rattle.record_layout.specs.Layout.{update_bank}
use Rattle.record_layout.specs.Rules.{invalid, valid, accepted_bank, state_known, state_allowed}
use Rattle.record_layout.proofs.Below.{below_each, below_all}
use Rattle.record_layout.proofs.Sound.{bank_fits_words, fits_ended, live_ended}
use Rattle.proof_kept_sound.specs.Fields.{Fields, with_state, with_flag, all_in, begun, committed, ended, marked_in, accepted_of, exchanged}

pub record Good (banks images : ℕ) (f : Fields) : Type 0 where
  pub active_low : f.active_bank < banks
  pub previous_low : f.previous_bank < banks
  pub flags_low : (i b : ℕ) → i < images → b < banks → f.flags i b ≤ 1
  pub states_known : (b : ℕ) → b < 4 → state_allowed banks b (f.states b) ≡ true
  pub fitting : (b : ℕ) → b < banks → bank_fits_words (f.states b) (all_in images b f) ≡ true
  pub live : eqb (f.states f.active_bank) invalid ≡ false

-- ---- small laws
-- the update bank is not the active one
pub update_differs : (banks a : ℕ) → 2 ≤ banks → a < banks → update_bank banks a ≡ a → ⊥
update_differs banks a h k e = ⊎_elim wraps plain (le_or_lt banks (a + 1))
  where
    plain : a + 1 < banks → ⊥
    plain lt = absurd (omega (arith, e, mod-eq_of_lt lt))

    wraps : banks ≤ a + 1 → ⊥
    wraps le =
        let z : a + 1 ≡ banks = omega arith in
        let m : banks % banks ≡ a = rw z at e in
        absurd (omega (arith, m, mod_self banks))

known_allowed : (banks b s : ℕ) → b < banks → state_known s ≡ true → state_allowed banks b s ≡ true
unfolding state_allowed
known_allowed banks b s h k = rw (lt-ltb b banks h) k

allowed_known : (banks b s : ℕ) → b < banks → state_allowed banks b s ≡ true → state_known s ≡ true
unfolding state_allowed
allowed_known banks b s h e = rw (lt-ltb b banks h) at e

-- a bank that is 255 fits
fits_invalid : (all : Bool) → bank_fits_words invalid all ≡ true
unfolding bank_fits_words
fits_invalid all = refl

-- or that becomes 252 with all accepted
fits_full : (b s : ℕ) (all : Bool) → all ≡ true → bank_fits_words (cond (eqb b b) accepted_bank s) all ≡ true
unfolding bank_fits_words
fits_full b s all e = rw (eq-eqb b b refl) e

-- a bank of which one more image is accepted, and still not all are
fits_part : (s : ℕ) (before after : Bool) → bank_fits_words s before ≡ true → after ≡ false → (before ≡ true → after ≡ true) → bank_fits_words s after ≡ true
fits_part s true after h e grows = absurd (no_true (sym e ∙ grows refl))
fits_part s false after h e grows = rw e h

-- a bank that is known and not 255 is 252 if all its images are accepted, else 254
live_is : (s : ℕ) (all : Bool) → state_known s ≡ true → eqb s invalid ≡ false → bank_fits_words s all ≡ true → s ≡ cond all accepted_bank valid
unfolding bank_fits_words
live_is s all known live fits = go all fits (either (eqb s valid) (eqb s accepted_bank) (rw live at known))
  where
    go : (t : Bool) → bank_fits_words s t ≡ true → (eqb s valid ≡ true) ⊎ (eqb s accepted_bank ≡ true) → s ≡ cond t accepted_bank valid
    go true fit (inl e) = let z = eqb-true s valid e in absurd (no_true (rw z at fit))
    go true fit (inr e) = eqb-true s accepted_bank e
    go false fit (inl e) = eqb-true s valid e
    go false fit (inr e) = let z = eqb-true s accepted_bank e in absurd (no_true (rw z at fit))

module _ (banks images : ℕ) (f : Fields) (g : Good banks images f) where
  -- the active bank is such a one
  pub status : banks ≤ 4 → f.states f.active_bank ≡ cond (all_in images f.active_bank f) accepted_bank valid
  status few =
      let a = f.active_bank in
      live_is (f.states a) (all_in images a f)
      (allowed_known banks a (f.states a) g.active_low (g.states_known a (omega (arith, g.active_low)))) g.live (g.fitting a g.active_low)

  -- fields that differ from f in bank u alone, which fits, and in the banks that they name
  good_but : (u : ℕ) (h : Fields) → h.active_bank < banks → h.previous_bank < banks
      → ((i b : ℕ) → i < images → b < banks → h.flags i b ≤ 1)
      → ((b : ℕ) → eqb b u ≡ false → (h.states b ≡ f.states b) × (all_in images b h ≡ all_in images b f))
      → (u < 4 → state_allowed banks u (h.states u) ≡ true)
      → bank_fits_words (h.states u) (all_in images u h) ≡ true
      → eqb (h.states h.active_bank) invalid ≡ false
      → Good banks images h
  good_but u h active_low previous_low flags_low other known fits live =
      record {
        active_low = active_low;
        previous_low = previous_low;
        flags_low = flags_low;
        states_known = λ b hb. allowed b hb (eqb b u) refl;
        fitting = λ b hb. fit b hb (eqb b u) refl;
        live = live;
      }
    where
      allowed : (b : ℕ) → b < 4 → (t : Bool) → eqb b u ≡ t → state_allowed banks b (h.states b) ≡ true
      allowed b hb true e = let z = eqb-true b u e in rw z (known (omega (arith, z)))
      allowed b hb false e = rw (other b e).0 (g.states_known b hb)

      fit : (b : ℕ) → b < banks → (t : Bool) → eqb b u ≡ t → bank_fits_words (h.states b) (all_in images b h) ≡ true
      fit b hb true e = rw (eqb-true b u e) fits
      fit b hb false e = rw ((other b e).0, (other b e).1) (g.fitting b hb)

  -- ---- the flag of image i in bank b anew
  flag_low : (i b v : ℕ) → v ≤ 1 → (j c : ℕ) → j < images → c < banks → cond (eqb c b && eqb j i) v (f.flags j c) ≤ 1
  flag_low i b v h j c hj hc = go (eqb c b && eqb j i)
    where
      go : (t : Bool) → cond t v (f.flags j c) ≤ 1
      go true = h
      go false = g.flags_low j c hj hc

  all_other : (i b v c : ℕ) → eqb c b ≡ false → all_in images c (with_flag i b v f) ≡ all_in images c f
  all_other i b v c e = rw e

  all_grows : (i b : ℕ) → all_in images b f ≡ true → all_in images b (with_flag i b 1 f) ≡ true
  all_grows i b h =
      below_all (λ j. eqb (cond (eqb b b && eqb j i) 1 (f.flags j b)) 1) images (λ j lt. go j lt (eqb b b && eqb j i))
    where
      go : (j : ℕ) → j < images → (t : Bool) → eqb (cond t 1 (f.flags j b)) 1 ≡ true
      go j lt true = refl
      go j lt false = below_each (λ k. eqb (f.flags k b) 1) images j h lt

  -- ---- Begin
  pub good_begun : (u : ℕ) → u < banks → (f.active_bank ≡ u → ⊥) → Good banks images (begun u f)
  good_begun u h differ =
      good_but u (begun u f) g.active_low g.previous_low (λ i b hi hb. low i b hi hb (eqb b u)) (λ b e. (rw e, rw e))
      (λ l. rw (eq-eqb u u refl) (known_allowed banks u invalid h refl))
      (rw (eq-eqb u u refl) (fits_invalid _)) (rw (ne_eqb f.active_bank u differ) g.live)
    where
      low : (i b : ℕ) → i < images → b < banks → (t : Bool) → cond t 0 (f.flags i b) ≤ 1
      low i b hi hb true = omega arith
      low i b hi hb false = g.flags_low i b hi hb

  -- ---- Commit
  pub good_committed : (i request u : ℕ) → f.states u ≡ invalid → Good banks images (committed i request u f)
  good_committed i request u staged =
      let v : ℕ = cond (eqb request 0) 1 0 in
      good_but u (committed i request u f) g.active_low g.previous_low (flag_low i u v (small (eqb request 0)))
      (λ b e. (refl, all_other i u v b e)) (g.states_known u) (rw staged (fits_invalid _)) g.live
    where
      small : (t : Bool) → cond t 1 0 ≤ 1
      small true = omega arith
      small false = omega arith

  -- ---- End
  pub good_ended : (u : ℕ) → u < banks → Good banks images (ended images u f)
  good_ended u h =
      good_but u (ended images u f) h g.active_low g.flags_low (λ b e. (rw e, refl)) (λ l. rw (eq-eqb u u refl) (known_allowed banks u _ h (known (all_in images u f))))
      (rw (eq-eqb u u refl) (fits_ended (all_in images u f))) (rw (eq-eqb u u refl) (live_ended (all_in images u f)))
    where
      known : (t : Bool) → state_known (cond t accepted_bank valid) ≡ true
      known true = refl
      known false = refl

  -- ---- Accept
  module _ (i : ℕ) where
    abbrev a : ℕ
    a = f.active_bank

    abbrev m : Fields
    m = marked_in i f

    good_marked : (t : Bool) → all_in images a m ≡ t → Good banks images (cond t (with_state a accepted_bank m) m)
    good_marked true full =
        good_but a (with_state a accepted_bank m) g.active_low g.previous_low (flag_low i a 1 (omega arith)) (λ b e. (rw e, all_other i a 1 b e))
        (λ l. rw (eq-eqb a a refl) (known_allowed banks a accepted_bank g.active_low refl)) (fits_full a (f.states a) _ full) (rw (eq-eqb a a refl))
    good_marked false part =
        good_but a m g.active_low g.previous_low (flag_low i a 1 (omega arith)) (λ b e. (refl, all_other i a 1 b e)) (g.states_known a)
        (fits_part (f.states a) (all_in images a f) (all_in images a m) (g.fitting a g.active_low) part (all_grows i a)) g.live

    pub good_accepted : Good banks images (accepted_of images i f)
    good_accepted = good_marked (all_in images a m) refl

  -- ---- Select previous
  pub good_exchanged : f.states f.previous_bank ≡ accepted_bank → Good banks images (exchanged f)
  good_exchanged e =
      record {
        active_low = g.previous_low;
        previous_low = g.active_low;
        flags_low = g.flags_low;
        states_known = g.states_known;
        fitting = g.fitting;
        live = rw e;
      }
