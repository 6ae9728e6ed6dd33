-- Laws of sums that stop at a cap. Assumes nothing.
use mathlib.Core.Path.{◌≡◌, refl, sym, ◌∙◌}
use mathlib.Core.Bool.{Bool, true, false}
use mathlib.Core.Logic.{⊎_elim}
use Prim.Native.Nat.{ℕ, zero, suc, ◌+◌, ◌≤◌, ◌<◌}
use native.Mathlib.Omega.{arith}
use borrow.Author.Tests.{le-leb, lt-leb}
use lib.Dec.{leb}
use Rattle.fields.proofs.Tests.{le_or_lt}
use Rattle.capsule_contents.specs.Sizes.{cap, size_cap, sum}

-- what the cap leaves, and what it stops
pub cap_low : (n : ℕ) → n ≤ size_cap → cap n ≡ n
unfolding cap
cap_low n h = rw (le-leb n size_cap h)

pub cap_high : (n : ℕ) → size_cap < n → cap n ≡ size_cap
unfolding cap
cap_high n h = rw (lt-leb n size_cap h)

pub cap_below : (n : ℕ) → cap n < size_cap → n ≡ cap n
cap_below n h = ⊎_elim (λ le. sym (cap_low n le)) (λ lt. absurd (omega (arith, cap_high n lt))) (le_or_lt n size_cap)

-- a sum of sums that were capped before
pub cap_again : (m n : ℕ) → cap (cap m + cap n) ≡ cap (m + n)
cap_again m n =
    ⊎_elim
    (λ mn.
    let p = cap_low m (omega arith) in
    let q = cap_low n (omega arith) in
    rw (p, q))
    (λ past. cap_high_sum past)
    (le_or_lt (m + n) size_cap)
  where
    cap_high_sum : size_cap < m + n → cap (cap m + cap n) ≡ cap (m + n)
    cap_high_sum past =
        let e = cap_high (m + n) past in
        let lm = le_or_lt m size_cap in
        let ln = le_or_lt n size_cap in
        let high : size_cap ≤ cap m + cap n =
        ⊎_elim
        (λ a. ⊎_elim (λ b. omega (arith, cap_low m a, cap_low n b)) (λ b. omega (arith, cap_high n b)) ln)
        (λ a. omega (arith, cap_high m a)) lm in
        ⊎_elim
        (λ a. let z : cap m + cap n ≡ size_cap = omega arith in cap_low (cap m + cap n) a ∙ z ∙ sym e)
        (λ b. cap_high (cap m + cap n) b ∙ sym e)
        (le_or_lt (cap m + cap n) size_cap)

-- one side capped before
pub cap_right : (m n : ℕ) → m ≤ size_cap → cap (m + cap n) ≡ cap (m + n)
cap_right m n h = let e = cap_low m h in rw e at (cap_again m n)

pub cap_left : (m n : ℕ) → cap (cap m + n) ≡ cap (m + n)
cap_left m n =
    ⊎_elim
    (λ le. rw (cap_low m le))
    (λ lt.
    let e = cap_high m lt in
    let low : size_cap ≤ size_cap + n = omega arith in
    rw e (go n lt))
    (le_or_lt m size_cap)
  where
    go : (k : ℕ) → size_cap < m → cap (size_cap + k) ≡ cap (m + k)
    go k lt =
        ⊎_elim
        (λ z. let w : size_cap + k ≡ size_cap = omega arith in rw w (cap_low size_cap (omega arith) ∙ sym (cap_high (m + k) (omega arith))))
        (λ pos. cap_high (size_cap + k) (omega arith) ∙ sym (cap_high (m + k) (omega arith)))
        (le_or_lt k 0)

-- ---- sums
pub sum_more : (n : ℕ) (f : ℕ → ℕ) → sum (suc n) f ≡ sum n f + f n
unfolding sum
sum_more n f = refl

-- a sum is at least each of those below it, and each of its summands
pub sum_grows : (n k : ℕ) (f : ℕ → ℕ) → k ≤ n → sum k f ≤ sum n f
unfolding sum
sum_grows zero k f h = let z : k ≡ 0 = omega arith in rw z (omega arith)
sum_grows (suc n) k f h =
    ⊎_elim
    (λ ge. let z : k ≡ suc n = omega arith in rw z (omega arith))
    (λ lt. omega (arith, sum_grows n k f (omega arith)))
    (le_or_lt (suc n) k)

pub sum_each : (n k : ℕ) (f : ℕ → ℕ) → k < n → sum k f + f k ≤ sum n f
sum_each n k f h = omega (arith, sum_grows n (suc k) f h, sum_more k f)
