-- The bits, from what was found of each copy and of their records. Assumes nothing.
use Prim.Native.Nat.{ℕ, ◌+◌, ◌*◌}
use mathlib.Core.Path.{◌≡◌, refl}
use mathlib.Core.Bool.{Bool, true, false, cond, ◌&&◌}
use mathlib.Core.List.{List}
use Rattle.std.specs.Int.{from_bool}
use Rattle.record_layout.specs.Layout.{copy0, copy1}
use Rattle.record_layout.specs.Rules.{sound_copy}
use Rattle.record_copies.specs.Copies.{records_equal, sound_and_equal}
use Rattle.c_area.specs.Soundness.{sound_copies}

sum_bits : (x y e : Bool) → from_bool x + 2 * from_bool y + 4 * from_bool e ≡ cond x 1 0 + (cond y 2 0 + cond e 4 0)
sum_bits true true true = refl
sum_bits true true false = refl
sum_bits true false true = refl
sum_bits true false false = refl
sum_bits false true true = refl
sum_bits false true false = refl
sum_bits false false true = refl
sum_bits false false false = refl

pub bits : (a : List ℕ) (x y e : Bool) (p q r : ℕ) → x ≡ sound_copy (copy0 a) → y ≡ sound_copy (copy1 a)
    → e ≡ ((x && y) && records_equal a) → p ≡ from_bool x → q ≡ from_bool y → r ≡ from_bool e → p + 2 * q + 4 * r ≡ sound_copies a
unfolding sound_copies sound_and_equal
bits a x y e p q r h0 h1 h2 h3 h4 h5 = rw (h3, h4, h5, ← h0, ← h1, ← h2) (sum_bits x y e)
