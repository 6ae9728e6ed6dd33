-- Ranges that share no byte, and what is clear of the descriptors read. Assumes nothing.
use mathlib.Core.Path.{◌≡◌, refl, sym, ◌∙◌}
use mathlib.Core.Bool.{Bool, true, false, ◌||◌, and-false}
use mathlib.Core.Logic.{◌⊎◌, inl, inr, ⊎_elim}
use mathlib.Core.List.{List, [], ◌∷◌}
use Prim.Native.Nat.{ℕ, zero, suc, ◌+◌, ◌-◌, ◌<◌, ◌≤◌}
use native.Mathlib.Omega.{arith}
use borrow.Author.Tests.{leb-true, leb-false, lt-leb, eq-eqb, eqb-true, ne_eqb, not-true, not-false}
use lib.Dec.{leb, eqb}
use lib.ListN.{length, get_or}
use Rattle.std.specs.Prelude.{Some, not}
use Rattle.std.specs.declared.ops.Range.{Range}
use Rattle.std.specs.Bool.{then_some}
use Rattle.fields.proofs.Tests.{both, either, neither, same_test}
use Rattle.gather_descriptors.specs.Reading.{length_of, address_of}
use Rattle.gather_descriptors.specs.Scratch.{Readable, BlockIs}
use Rattle.gather_place.specs.Place.{apart, clear_of, clear_of_all}
use Rattle.gather_place.specs.Search.{NextStart}

-- an address and its offset in the window
pub apart_at : (B p t s n : ℕ) → B ≤ s → apart (B + p) t s n ≡ apart p t (s - B) n
unfolding apart
apart_at B p t s n h =
    rw (
      same_test (B + p + t) s (p + t) (s - B) (λ x. omega arith) (λ x. omega arith),
      same_test (s + n) (B + p) (s - B + n) p (λ x. omega arith) (λ x. omega arith),
    )

pub apart_or : (p t s n : ℕ) → apart p t s n ≡ true → (p + t ≤ s) ⊎ (s + n ≤ p)
unfolding apart
apart_or p t s n e =
    ⊎_elim (λ a. inl (leb-true (p + t) s a)) (λ a. inr (leb-true (s + n) p a)) (either (leb (p + t) s) (leb (s + n) p) e)

-- a start that meets a range lies below its end, and so meets it each later start below that end
pub meets : (p t s n : ℕ) → apart p t s n ≡ false → (p < s + n) × ((q : ℕ) → p ≤ q → q < s + n → apart q t s n ≡ false)
unfolding apart
meets p t s n e =
    let h = neither (leb (p + t) s) (leb (s + n) p) e in
    let u : s < p + t = leb-false (p + t) s h.0 in
    (leb-false (s + n) p h.1, λ q le lt. rw (lt-leb (q + t) s (omega arith), lt-leb (s + n) q lt))

module _ (w : List ℕ) (B t p d : ℕ) where
  pub meets_descriptor : apart p t d 16 ≡ false → clear_of w B t p d ≡ false
  unfolding clear_of
  meets_descriptor e = rw e

  pub meets_block : (length_of w B d ≡ 0 → ⊥) → apart p t (address_of w B d) (length_of w B d) ≡ false → clear_of w B t p d ≡ false
  unfolding clear_of
  meets_block z e = simp (ne_eqb (length_of w B d) 0 z, e, and-false)

  pub clear_no_block : apart p t d 16 ≡ true → length_of w B d ≡ 0 → clear_of w B t p d ≡ true
  unfolding clear_of
  clear_no_block a e = simp (a, eq-eqb (length_of w B d) 0 e)

  pub clear_both : apart p t d 16 ≡ true → (length_of w B d ≡ 0 → ⊥) → apart p t (address_of w B d) (length_of w B d) ≡ true
      → clear_of w B t p d ≡ true
  unfolding clear_of
  clear_both a z e = simp (a, ne_eqb (length_of w B d) 0 z, e)

  -- what a clear start says
  pub clear_descriptor : clear_of w B t p d ≡ true → (p + t ≤ d) ⊎ (d + 16 ≤ p)
  unfolding clear_of
  clear_descriptor e =
      apart_or p t d 16 (both (apart p t d 16) (eqb (length_of w B d) 0 || apart p t (address_of w B d) (length_of w B d)) e).0

  pub clear_block : clear_of w B t p d ≡ true → 0 < length_of w B d → (p + t ≤ address_of w B d) ⊎ (address_of w B d + length_of w B d ≤ p)
  unfolding clear_of
  clear_block e z =
      ⊎_elim
      (λ n. absurd (omega (arith, eqb-true (length_of w B d) 0 n)))
      (λ a. apart_or p t (address_of w B d) (length_of w B d) a)
      (either (eqb (length_of w B d) 0) (apart p t (address_of w B d) (length_of w B d))
      (both (apart p t d 16) (eqb (length_of w B d) 0 || apart p t (address_of w B d) (length_of w B d)) e).1)

module _ (w : List ℕ) (B t p : ℕ) where
  pub one_not_clear : (ds : List ℕ) (i : ℕ) → i < length ds → clear_of w B t p (get_or ds i 0) ≡ false → clear_of_all w B t p ds ≡ false
  unfolding clear_of_all
  one_not_clear [] i h e = absurd (omega arith)
  one_not_clear (d ∷ ds) zero h e = rw e
  one_not_clear (d ∷ ds) (suc i) h e = simp (one_not_clear ds i (omega arith) e, and-false)

  pub each_clear : (ds : List ℕ) → ((i : ℕ) → i < length ds → clear_of w B t p (get_or ds i 0) ≡ true) → clear_of_all w B t p ds ≡ true
  unfolding clear_of_all
  each_clear [] h = refl
  each_clear (d ∷ ds) h = simp (h 0 (omega arith), each_clear ds (λ i lt. h (suc i) (omega arith)))

  pub clear_each : (ds : List ℕ) (i : ℕ) → i < length ds → clear_of_all w B t p ds ≡ true → clear_of w B t p (get_or ds i 0) ≡ true
  unfolding clear_of_all
  clear_each [] i h e = absurd (omega arith)
  clear_each (d ∷ ds) zero h e = (both (clear_of w B t p d) (clear_of_all w B t p ds) e).0
  clear_each (d ∷ ds) (suc i) h e = clear_each ds i (omega arith) (both (clear_of w B t p d) (clear_of_all w B t p ds) e).1

-- the first start that the descriptor at d leaves, where the t bytes at the offset p meet it
pub past_descriptor : (w : List ℕ) (B d p t : ℕ) → Readable w B d → apart p t (d - B) 16 ≡ false
    → NextStart (λ q. clear_of w B t (B + q) d) (length w) p (Some (d - B + 16))
past_descriptor w B d p t r e =
    let m = meets p t (d - B) 16 e in
    (m.0, omega (arith, r.high), λ q le lt. meets_descriptor w B t (B + q) d (apart_at B q t d 16 r.low ∙ m.1 q le lt))

-- the first that its block leaves, or none, where they are clear of the descriptor itself
pub past_block : (w : List ℕ) (B d p t : ℕ) (r : Range ℕ) → Readable w B d → BlockIs w B d r → apart (B + p) t d 16 ≡ true
    → (n : ℕ) → n ≡ length_of w B d → (b : Bool) → b ≡ not (apart p t r.start n)
    → NextStart (λ q. clear_of w B t (B + q) d) (length w) p (then_some b r.end)
past_block w B d p t r readable is clear n en true e =
    let s : address_of w B d - B ≡ r.start = omega (arith, is.starts) in
    let low : B ≤ address_of w B d = omega (arith, is.starts) in
    let m = meets p t r.start n (not-true _ (sym e)) in (
      omega (arith, m.0, is.ends),
      omega (arith, is.ends, is.starts, (readable.block is.some).1),
      λ q le lt.
          meets_block w B t (B + q) d (λ z. absurd (omega (arith, is.some)))
          (apart_at B q t (address_of w B d) (length_of w B d) low ∙ rw (s, ← en) (m.1 q le (omega (arith, is.ends)))),
    )
past_block w B d p t r readable is clear n en false e =
    let s : address_of w B d - B ≡ r.start = omega (arith, is.starts) in
    let low : B ≤ address_of w B d = omega (arith, is.starts) in
    clear_both w B t (B + p) d clear (λ z. absurd (omega (arith, is.some)))
    (apart_at B p t (address_of w B d) (length_of w B d) low ∙ rw (s, ← en) (not-false _ (sym e)))
