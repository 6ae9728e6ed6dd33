-- Laws of decimal digits. Assumes nothing.
use mathlib.Core.Path.{◌≡◌, refl, ap}
use mathlib.Core.Bool.{Bool, true, false, cond}
use mathlib.Core.List.{List, [], ◌∷◌, ◌++◌}
use Prim.Native.Nat.{ℕ, zero, suc, ◌+◌, ◌/◌, ◌%◌, ◌≤◌, ◌<◌}
use native.Mathlib.Omega.{arith}
use borrow.Author.Tests.{ltb-true, ltb-false, lt-ltb, le-ltb}
use lib.Dec.{ltb}
use lib.ListN.{length, length-append}
use Rattle.report_text.specs.Text.{digit_of, digits, decimal}

pub decimal_low : (n : ℕ) → n < 10 → decimal n ≡ digit_of n ∷ []
unfolding decimal digits
decimal_low n h = rw (lt-ltb n 10 h)

-- any number of turns above the number's own gives the same digits
same_more : (n : ℕ) (l m : List ℕ) (b : Bool) → ltb n 10 ≡ b → (10 ≤ n → l ≡ m)
    → cond b (digit_of n ∷ []) (l ++ (digit_of (n % 10) ∷ [])) ≡ cond b (digit_of n ∷ []) (m ++ (digit_of (n % 10) ∷ []))
same_more n l m true e h = refl
same_more n l m false e h = ap (λ (z : List ℕ). z ++ (digit_of (n % 10) ∷ [])) (h (ltb-false n 10 e))

turns : (s t n : ℕ) → n < s → n < t → digits s n ≡ digits t n
unfolding digits
turns zero t n p q = absurd (omega arith)
turns (suc s) zero n p q = absurd (omega arith)
turns (suc s) (suc t) n p q =
    same_more n (digits s (n / 10)) (digits t (n / 10)) (ltb n 10) refl (λ h. turns s t (n / 10) (omega arith) (omega arith))

pub decimal_more : (n : ℕ) → 10 ≤ n → decimal n ≡ decimal (n / 10) ++ (digit_of (n % 10) ∷ [])
unfolding decimal digits
decimal_more n h =
    rw (le-ltb n 10 h) (ap (λ (l : List ℕ). l ++ (digit_of (n % 10) ∷ [])) (turns n (suc (n / 10)) (n / 10) (omega arith) (omega arith)))

-- how many digits there are at most
pub one_digit : (n : ℕ) → n < 10 → length (decimal n) ≡ 1
one_digit n h = rw (decimal_low n h)

more_digits : (n k : ℕ) → length (decimal (n / 10)) ≤ k → 1 ≤ k → length (decimal n) ≤ k + 1
more_digits n k h low = go (ltb n 10) refl
  where
    go : (b : Bool) → ltb n 10 ≡ b → length (decimal n) ≤ k + 1
    go true e = omega (arith, one_digit n (ltb-true n 10 e))
    go false e = rw (decimal_more n (ltb-false n 10 e), length-append) (omega arith)

pub two_digits : (n : ℕ) → n < 100 → length (decimal n) ≤ 2
two_digits n h = more_digits n 1 (omega (arith, one_digit (n / 10) (omega arith))) (omega arith)

pub three_digits : (n : ℕ) → n < 1000 → length (decimal n) ≤ 3
three_digits n h = more_digits n 2 (two_digits (n / 10) (omega arith)) (omega arith)

pub four_digits : (n : ℕ) → n < 10000 → length (decimal n) ≤ 4
four_digits n h = more_digits n 3 (three_digits (n / 10) (omega arith)) (omega arith)
