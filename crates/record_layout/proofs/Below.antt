-- Laws of a test at every number below a limit, and of the least number at which it holds. Assumes nothing.
use mathlib.Core.Path.{◌≡◌, refl, sym}
use mathlib.Core.Bool.{Bool, true, false, and-false}
use mathlib.Core.Logic.{⊎_elim}
use mathlib.Core.List.{List}
use Prim.Native.Nat.{ℕ, zero, suc, ◌+◌, ◌≤◌, ◌<◌}
use native.Mathlib.Numerals.{add-one}
use native.Mathlib.Omega.{arith}
use borrow.Author.Tests.{le-ltb, lt-ltb}
use Rattle.fields.proofs.Tests.{both, le_or_lt}
use Rattle.record_layout.specs.Every.{below, least, distinct}

pub below_none : (test : ℕ → Bool) → below 0 test ≡ true
unfolding below
below_none test = refl

-- one more
pub below_more : (test : ℕ → Bool) (i : ℕ) → below i test ≡ true → test i ≡ true → below (i + 1) test ≡ true
unfolding below
below_more test i p q = rw (add-one, p, q)

-- one that fails
pub below_stop : (test : ℕ → Bool) (n i : ℕ) → i < n → test i ≡ false → below n test ≡ false
unfolding below
below_stop test zero i h e = absurd (omega arith)
below_stop test (suc n) i h e =
    ⊎_elim
    (λ le. let z : i ≡ n = omega arith in let f : test n ≡ false = rw z at e in rw (f, and-false))
    (λ lt. rw (below_stop test n i lt e))
    (le_or_lt n i)

-- the same tests
pub below_same : (s t : ℕ → Bool) (n : ℕ) → ((i : ℕ) → i < n → s i ≡ t i) → below n s ≡ below n t
unfolding below
below_same s t zero h = refl
below_same s t (suc n) h = rw (below_same s t n (λ i lt. h i (omega arith)), h n (omega arith))

-- each of them
pub below_each : (test : ℕ → Bool) (n i : ℕ) → below n test ≡ true → i < n → test i ≡ true
unfolding below
below_each test zero i e h = absurd (omega arith)
below_each test (suc n) i e h =
    let p = both (below n test) (test n) e in
    ⊎_elim (λ le. let z : i ≡ n = omega arith in rw z p.1) (λ lt. below_each test n i p.0 lt) (le_or_lt n i)

pub below_all : (test : ℕ → Bool) (n : ℕ) → ((i : ℕ) → i < n → test i ≡ true) → below n test ≡ true
unfolding below
below_all test zero h = refl
below_all test (suc n) h = rw (below_all test n (λ i lt. h i (omega arith)), h n (omega arith))

-- the same GUIDs
pub distinct_same : (n : ℕ) (f g : ℕ → List ℕ) → ((i : ℕ) → i < n → f i ≡ g i) → distinct n f ≡ distinct n g
distinct_same n f g h = below_same _ _ n (λ i lt. below_same _ _ i (λ j less. rw (h i lt, h j (omega arith))))

-- ---- a loop that tests the numbers below n: those below i hold
pub record Passed (test : ℕ → Bool) (n i : ℕ) : Type 0 where
  pub low : i ≤ n
  pub all : below i test ≡ true

pub passed_none : {test : ℕ → Bool} {n : ℕ} → Passed test n 0
passed_none {test} = record { low = omega arith; all = below_none test }

pub passed_more : {test : ℕ → Bool} {n i : ℕ} → Passed test n i → i < n → test i ≡ true → Passed test n (i + 1)
passed_more {test} {n} {i} p h e = record { low = omega arith; all = below_more test i p.all e }

pub passed_stop : {test : ℕ → Bool} {n i : ℕ} → Passed test n i → i < n → test i ≡ false → below n test ≡ false
passed_stop {test} {n} {i} p h e = below_stop test n i h e

pub passed_all : {test : ℕ → Bool} {n i : ℕ} → Passed test n i → n ≤ i → below n test ≡ true
passed_all {test} {n} {i} p h = let z : i ≡ n = omega (arith, p.low) in rw z at p.all

-- ---- the least: none below 0, none below i + 1, and the one after none
pub least_none : (test : ℕ → Bool) → least 0 test ≡ 0
unfolding least
least_none test = refl

pub least_more : (test : ℕ → Bool) (i : ℕ) → least i test ≡ i → test i ≡ false → least (i + 1) test ≡ i + 1
unfolding least
least_more test i p q = rw (add-one, p, le-ltb i i (omega arith), q)

pub least_found : (test : ℕ → Bool) (n i : ℕ) → i < n → least i test ≡ i → test i ≡ true → least n test ≡ i
unfolding least
least_found test zero i h p q = absurd (omega arith)
least_found test (suc n) i h p q =
    ⊎_elim
    (λ le.
    let z : i ≡ n = omega arith in
    let e : least n test ≡ n = rw z at p in
    let f : test n ≡ true = rw z at q in
    rw (e, le-ltb n n (omega arith), f) (sym z))
    (λ lt. rw (least_found test n i lt p q, lt-ltb i n lt))
    (le_or_lt n i)
