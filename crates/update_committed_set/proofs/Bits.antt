-- The bit of an image, and the count of ones. Assumes nothing.
use mathlib.Core.Path.{◌≡◌, sym, ap, ◌∙◌}
use Prim.Native.Nat.{ℕ, zero, suc, ◌+◌, ◌*◌, ◌/◌, ◌%◌, ◌^◌, ◌<◌}
use native.Mathlib.Nat.{one-mul}
use native.Mathlib.Omega.{arith}
use lib.Dec.{lit<}
use lib.Arith.{lt-one}
use lib.Count.{ones, ones_in, ones_step}
use lib.Pow.{shl_exact, shr_lt}

-- a one that is shifted, and does not leave the word
pub one_shifted : (k w : ℕ) → k < w → (1 * 2 ^ k) % 2 ^ w ≡ 2 ^ k
one_shifted k w h = shl_exact {a = 1} 1 k w (lit< tt) (omega arith) ∙ one-mul (2 ^ k)

-- a number's ones, counted in as many digits as it has, or more
pub ones_in_lem : (d n : ℕ) → n < 2 ^ d → ones_in d n ≡ ones n
unfolding ones_in ones
ones_in_lem zero n h = sym (ap ones (lt-one h))
ones_in_lem (suc d) n h =
    let z : suc d ≡ d + 1 = omega arith in
    let lt : n < 2 ^ (d + 1) = rw (← z) h in
    rw (ones_in_lem d (n / 2) (shr_lt d 1 lt)) (sym (ones_step n))
