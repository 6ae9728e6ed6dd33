-- Starts that are passed over, and the lowest that is left. Assumes nothing.
use mathlib.Core.Path.{◌≡◌, refl}
use mathlib.Core.Bool.{Bool, true, false, cond, and-false}
use mathlib.Core.Logic.{⊎_elim}
use mathlib.Core.List.{List}
use Prim.Native.Nat.{ℕ, zero, suc, ◌+◌, ◌<◌, ◌≤◌}
use native.Mathlib.Omega.{arith}
use borrow.Author.Tests.{leb-true, le-leb, lt-leb}
use lib.Dec.{leb}
use lib.ListN.{length}
use Rattle.std.specs.Prelude.{Option, Some, None}
use Rattle.fields.proofs.Tests.{both, le_or_lt}
use Rattle.gather_window.specs.Window.{within}
use Rattle.gather_place.specs.Place.{clear_of_all, free, lowest}

module _ (w : List ℕ) (B t : ℕ) (ds : List ℕ) (p : ℕ) where
  pub too_high : B + length w < p + t → free w B t ds p ≡ false
  unfolding free within
  too_high h = simp (lt-leb (p + t) (B + length w) h, and-false)

  pub too_low : p < B → free w B t ds p ≡ false
  unfolding free within
  too_low h = rw (lt-leb B p h)

  pub not_clear : clear_of_all w B t p ds ≡ false → free w B t ds p ≡ false
  unfolding free
  not_clear e = simp (e, and-false)

  pub is_free : B ≤ p → p + t ≤ B + length w → clear_of_all w B t p ds ≡ true → free w B t ds p ≡ true
  unfolding free within
  is_free low high e = rw (le-leb B p low, le-leb (p + t) (B + length w) high, e)

  -- and back
  pub free_parts : free w B t ds p ≡ true → (B ≤ p) × (p + t ≤ B + length w) × (clear_of_all w B t p ds ≡ true)
  unfolding free within
  free_parts e =
      let h = both (within B (length w) p t) (clear_of_all w B t p ds) e in
      let k = both (leb B p) (leb (p + t) (B + length w)) h.0 in
      (leb-true B p k.0, leb-true (p + t) (B + length w) k.1, h.1)

-- the first start that passes, if each before it fails
pub lowest_at : (test : ℕ → Bool) (k q p : ℕ) → q ≤ p → p < q + k → test p ≡ true → ((j : ℕ) → q ≤ j → j < p → test j ≡ false)
    → lowest k q test ≡ Some p
unfolding lowest
lowest_at test zero q p le lt e h = absurd (omega arith)
lowest_at test (suc k) q p le lt e h =
    ⊎_elim
    (λ c. let s : q ≡ p = omega arith in rw (s, e))
    (λ l. rw (h q (omega arith) l) (lowest_at test k (q + 1) p (omega arith) (omega arith) e (λ j a b. h j (omega arith) b)))
    (le_or_lt p q)

-- none, if each fails
pub lowest_none : (test : ℕ → Bool) (k q : ℕ) → ((j : ℕ) → q ≤ j → test j ≡ false) → lowest k q test ≡ None
unfolding lowest
lowest_none test zero q h = refl
lowest_none test (suc k) q h = rw (h q (omega arith)) (lowest_none test k (q + 1) (λ j a. h j (omega arith)))

-- what was found passes, and nothing before it does
step_at : (test : ℕ → Bool) (q p : ℕ) (X : Option ℕ) (b : Bool) → test q ≡ b → (X ≡ Some p → (q + 1 ≤ p) × (test p ≡ true))
    → cond b (Some q) X ≡ Some p
    → (q ≤ p) × (test p ≡ true)
step_at test q p X true e g h = let z : q ≡ p = cc in (omega arith, rw z at e)
step_at test q p X false e g h = let i = g h in (omega arith, i.1)

pub found_at : (test : ℕ → Bool) (k q p : ℕ) → lowest k q test ≡ Some p → (q ≤ p) × (test p ≡ true)
unfolding lowest
found_at test zero q p h = let b : ◌≡◌ {A = ℕ} 0 1 = cc in absurd (omega arith)
found_at test (suc k) q p h = step_at test q p (lowest k (q + 1) test) (test q) refl (found_at test k (q + 1) p) h

step_before : (test : ℕ → Bool) (q p j : ℕ) (X : Option ℕ) (b : Bool) → test q ≡ b → q ≤ j → j < p
    → (X ≡ Some p → q + 1 ≤ j → test j ≡ false)
    → cond b (Some q) X ≡ Some p → test j ≡ false
step_before test q p j X true e l u g h = let z : q ≡ p = cc in absurd (omega arith)
step_before test q p j X false e l u g h =
    ⊎_elim (λ le. let z : j ≡ q = omega arith in rw z e) (λ lt. g h (omega arith)) (le_or_lt j q)

pub none_before : (test : ℕ → Bool) (k q p : ℕ) → lowest k q test ≡ Some p → (j : ℕ) → q ≤ j → j < p → test j ≡ false
unfolding lowest
none_before test zero q p h j l u = let b : ◌≡◌ {A = ℕ} 0 1 = cc in absurd (omega arith)
none_before test (suc k) q p h j l u = step_before test q p j (lowest k (q + 1) test) (test q) refl l u
    (λ x y. none_before test k (q + 1) p x j y u) h

-- where none was found, none of the k passes
step_none : (test : ℕ → Bool) (q k j : ℕ) (X : Option ℕ) (b : Bool) → test q ≡ b → q ≤ j → (X ≡ None → q + 1 ≤ j → test j ≡ false)
    → cond b (Some q) X ≡ None → test j ≡ false
step_none test q k j X true e l g h = let z : ◌≡◌ {A = ℕ} 0 1 = cc in absurd (omega arith)
step_none test q k j X false e l g h =
    ⊎_elim (λ le. let z : j ≡ q = omega arith in rw z e) (λ lt. g h (omega arith)) (le_or_lt j q)

pub found_none : (test : ℕ → Bool) (k q : ℕ) → lowest k q test ≡ None → (j : ℕ) → q ≤ j → j < q + k → test j ≡ false
unfolding lowest
found_none test zero q h j l u = absurd (omega arith)
found_none test (suc k) q h j l u = step_none test q k j (lowest k (q + 1) test) (test q) refl l
    (λ x y. found_none test k (q + 1) x j y (omega arith)) h
