-- What the record says that each call makes, before its CRC is worked anew. Assumes nothing.
use mathlib.Core.Path.{◌≡◌, refl, ◌∙◌}
use mathlib.Core.Bool.{Bool, true, false, cond, ◌&&◌, ◌||◌}
use mathlib.Core.List.{List}
use Prim.Native.Nat.{ℕ, zero, suc, ◌^◌, ◌≤◌, ◌<◌}
use native.Mathlib.Omega.{arith}
use borrow.Author.Tests.{eqb-true, eqb-false, ltb-true, ltb-false, lt-ltb, le-ltb}
use lib.Dec.{eqb, ltb}
use Rattle.fields.specs.Number.{Bytes}
use Rattle.record_layout.specs.Layout.{active, previous, bank_count, image_count}
use Rattle.record_layout.specs.Rules.{invalid, valid, accepted_bank, all_accepted}
use Rattle.record_layout.specs.Sized.{Sized}
use Rattle.record_alterations.specs.Fields.{set_active, set_previous, set_state, set_accepted}
use Rattle.update_changes.specs.NewRecord.{unaccepted_below, marked}
use Rattle.proof_kept_sound.specs.Fields.{Fields, fields_of, with_state, all_in, begun, committed, ended, marked_in, accepted_of, exchanged}
use Rattle.proof_kept_sound.proofs.Says.{Says, says_active, says_previous, says_state, says_flag}
use Rattle.proof_kept_sound.proofs.Carried.{all_in_lem, all_reads}

-- other flags
abbrev flagging : ((i b : ℕ) → ℕ) → Fields → Fields
flagging flags f = record { active_bank = f.active_bank; previous_bank = f.previous_bank; states = f.states; flags = flags }

-- the first n images of bank b unaccepted
abbrev cleared : (n b : ℕ) → Fields → (i c : ℕ) → ℕ
cleared n b f i c = cond (eqb c b && ltb i n) 0 (f.flags i c)

-- below n + 1 is at n or below it
one_more : (i n : ℕ) → ltb i (suc n) ≡ (eqb i n || ltb i n)
one_more i n = go (eqb i n) (ltb i n) refl refl
  where
    go : (p q : Bool) → eqb i n ≡ p → ltb i n ≡ q → ltb i (suc n) ≡ (p || q)
    go true q e h = lt-ltb i (suc n) (omega (arith, eqb-true i n e))
    go false true e h = lt-ltb i (suc n) (omega (arith, ltb-true i n h))
    go false false e h = le-ltb i (suc n) (omega (arith, eqb-false i n e, ltb-false i n h))

one_more_cleared : (p q t : Bool) (v : ℕ) → cond (p && q) 0 (cond (p && t) 0 v) ≡ cond (p && (q || t)) 0 v
one_more_cleared true true t v = refl
one_more_cleared true false t v = refl
one_more_cleared false q t v = refl

none_cleared : (p : Bool) (v : ℕ) → v ≡ cond (p && false) 0 v
none_cleared true v = refl
none_cleared false v = refl

module _ (r : List ℕ) (banks images : ℕ) (s : Sized r banks images) where
  says_flags : (x : List ℕ) (f : Fields) (flags : (i b : ℕ) → ℕ) → Says r banks images x f
      → ((i b : ℕ) → i < images → b < banks → f.flags i b ≡ flags i b) → Says r banks images x (flagging flags f)
  says_flags x f flags w h =
      record {
        long = w.long;
        small = w.small;
        active_is = w.active_is;
        previous_is = w.previous_is;
        state_is = w.state_is;
        flag_is = λ i b hi hb. w.flag_is i b hi hb ∙ h i b hi hb;
        stays = w.stays;
      }

  says_cleared : (x : List ℕ) (f : Fields) → Says r banks images x f → (b : ℕ) → b < banks → (n : ℕ) → n ≤ images
      → Says r banks images (unaccepted_below n b x) (flagging (cleared n b f) f)
  unfolding unaccepted_below
  says_cleared x f w b hb zero h =
      says_flags x f (cleared zero b f) w (λ i c hi hc. rw (le-ltb i 0 (omega arith)) (none_cleared (eqb c b) (f.flags i c)))
  says_cleared x f w b hb (suc n) h =
      let before = says_cleared x f w b hb n (omega arith) in
      says_flags _ _ (cleared (suc n) b f) (says_flag r banks images s (unaccepted_below n b x) _ before n b 0 (omega arith) hb (omega arith))
      (λ i c hi hc. rw (one_more i n) (one_more_cleared (eqb c b) (eqb i n) (ltb i n) (f.flags i c)))

-- the whole bank
all_cleared : (p : Bool) (v : ℕ) → cond (p && true) 0 v ≡ cond p 0 v
all_cleared true v = refl
all_cleared false v = refl

module _ (r : List ℕ) (small : Bytes r) (s : Sized r (bank_count r) (image_count r)) where
  abbrev f : Fields
  f = fields_of r

  abbrev Told : List ℕ → Fields → Type 0
  Told x g = Says r (bank_count r) (image_count r) x g

  -- the old record
  pub told : Told r f
  told =
      record {
        long = refl;
        small = small;
        active_is = refl;
        previous_is = refl;
        state_is = λ b h. refl;
        flag_is = λ i b hi hb. refl;
        stays = λ k e. refl;
      }

  module _ (low : active r < bank_count r) (u : ℕ) (hu : u < bank_count r) where
    u4 : u < 4
    u4 = omega (arith, s.banks_high)

    pub begin_says : Told (unaccepted_below (image_count r) u (set_state u invalid r)) (begun u f)
    begin_says =
        let state = says_state r (bank_count r) (image_count r) s r f told u invalid u4 (omega arith) in
        says_flags r (bank_count r) (image_count r) s _ _ (begun u f).flags
        (says_cleared r (bank_count r) (image_count r) s _ _ state u hu (image_count r) (omega arith)) (λ i b hi hb.
        rw (lt-ltb i (image_count r) hi) (all_cleared (eqb b u) (f.flags i b)))

    pub commit_says : (i request : ℕ) → i < image_count r → Told (set_accepted i u (cond (eqb request 0) 1 0) r) (committed i request u f)
    commit_says i request hi =
        says_flag r (bank_count r) (image_count r) s r f told i u (cond (eqb request 0) 1 0) hi hu (go (eqb request 0))
      where
        go : (t : Bool) → cond t 1 0 < 2 ^ 32
        go true = omega arith
        go false = omega arith

    pub end_says : Told (set_active u (set_previous (active r) (set_state u (cond (all_accepted r u) accepted_bank valid) r))) (ended (image_count r) u f)
    end_says =
        let v = cond (all_in (image_count r) u f) accepted_bank valid in
        let state = says_state r (bank_count r) (image_count r) s r f told u v u4 (go (all_in (image_count r) u f)) in
        let previous = says_previous r (bank_count r) (image_count r) s (set_state u v r) _ state (active r) (omega (arith, s.banks_high)) in
        rw (all_in_lem r u)
        (says_active r (bank_count r) (image_count r) s (set_previous (active r) (set_state u v r)) _ previous u (omega arith))
      where
        go : (t : Bool) → cond t accepted_bank valid < 256
        go true = omega arith
        go false = omega arith

  module _ (low : active r < bank_count r) (i : ℕ) (hi : i < image_count r) where
    pub marked_says : Told (marked i r) (marked_in i f)
    unfolding marked
    marked_says = says_flag r (bank_count r) (image_count r) s r f told i (active r) 1 hi low (omega arith)

    pub accept_says : Told (cond (all_accepted (marked i r) (active r)) (set_state (active r) accepted_bank (marked i r)) (marked i r))
        (accepted_of (image_count r) i f)
    accept_says =
        rw (all_reads r (marked i r) (marked_in i f) marked_says (active r) low) (go (all_in (image_count r) (active r) (marked_in i f)))
      where
        go : (t : Bool)
            → Told (cond t (set_state (active r) accepted_bank (marked i r)) (marked i r))
            (cond t (with_state (active r) accepted_bank (marked_in i f)) (marked_in i f))
        go true =
            says_state r (bank_count r) (image_count r) s (marked i r) (marked_in i f) marked_says (active r) accepted_bank
            (omega (arith, s.banks_high)) (omega arith)
        go false = marked_says

  pub exchange_says : active r < bank_count r → previous r < bank_count r → Told (set_active (previous r) (set_previous (active r) r)) (exchanged f)
  exchange_says low high =
      let previous-told = says_previous r (bank_count r) (image_count r) s r f told (active r) (omega (arith, s.banks_high)) in
      says_active r (bank_count r) (image_count r) s (set_previous (active r) r) _ previous-told (previous r) (omega (arith, s.banks_high))
