-- Laws of the register, for the crates above: of lists of bytes, and that it has 32 bits. Assumes nothing.
use mathlib.Core.Path.{◌≡◌, refl}
use mathlib.Core.List.{List, [], ◌∷◌, ◌++◌}
use Prim.Native.Nat.{ℕ, zero, suc, ◌/◌, ◌^◌, ◌<◌}
use native.Mathlib.Omega.{arith}
use lib.Bits.{bit_xor, xor_lt}
use Rattle.std.specs.List.{fold}
use Rattle.fields.specs.Number.{Bytes}
use Rattle.record_crc.specs.Crc.{division_step, steps, with_byte, with_bytes, all_ones, crc32_of}

-- one list of bytes behind another
pub with_bytes_append : (r : ℕ) (xs ys : List ℕ) → with_bytes r (xs ++ ys) ≡ with_bytes (with_bytes r xs) ys
unfolding with_bytes
with_bytes_append r [] ys = refl
with_bytes_append r (x ∷ xs) ys = with_bytes_append (with_byte r x) xs ys

-- the bytes folded into the register
pub with_bytes_fold : (r : ℕ) (bs : List ℕ) → fold with_byte r bs ≡ with_bytes r bs
unfolding with_bytes
with_bytes_fold r [] = refl
with_bytes_fold r (b ∷ bs) = with_bytes_fold (with_byte r b) bs

-- ---- a CRC-32 has 32 bits
step_low : (r : ℕ) → r < 2 ^ 32 → division_step r < 2 ^ 32
unfolding division_step
step_low r h = xor_lt 32 (r / 2) _ (omega arith) (omega arith)

steps_low : (n r : ℕ) → r < 2 ^ 32 → steps n r < 2 ^ 32
unfolding steps
steps_low zero r h = h
steps_low (suc n) r h = steps_low n (division_step r) (step_low r h)

byte_low : (r b : ℕ) → r < 2 ^ 32 → b < 256 → with_byte r b < 2 ^ 32
unfolding with_byte
byte_low r b h k = steps_low 8 (bit_xor r b) (xor_lt 32 r b h (omega arith))

bytes_low : (r : ℕ) (bs : List ℕ) → r < 2 ^ 32 → Bytes bs → with_bytes r bs < 2 ^ 32
unfolding with_bytes
bytes_low r [] h k = h
bytes_low r (b ∷ bs) h k = bytes_low (with_byte r b) bs (byte_low r b h (k zero)) (λ i. k (suc i))

pub crc_low : (bs : List ℕ) → Bytes bs → crc32_of bs < 2 ^ 32
unfolding crc32_of
crc_low bs k = xor_lt 32 (with_bytes all_ones bs) all_ones (bytes_low all_ones bs (omega arith) k) (omega arith)
