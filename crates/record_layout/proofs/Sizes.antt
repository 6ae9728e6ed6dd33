-- Laws of the layout's sizes and offsets, which are products. Assumes nothing.
use mathlib.Core.Path.{◌≡◌, sym, ap, ◌∙◌}
use mathlib.Core.List.{List}
use Prim.Native.Nat.{ℕ, suc, ◌+◌, ◌*◌, ◌≤◌, ◌<◌}
use native.Mathlib.Nat.{mul-le-mul, suc-mul, mul_assoc, mul_comm}
use native.Mathlib.Omega.{arith}
use lib.ListN.{length}
use Rattle.record_layout.specs.Layout.{header_size, bank_limit, image_limit, record_limit, image_count, entry_size, entry_at, record_size}
use Rattle.record_layout.specs.Sized.{Sized}

-- the image count by its field
pub by_field : (r : List ℕ) (banks images : ℕ) → Sized r banks images → Sized r banks (image_count r)
by_field r banks images s = rw s.images_is s

-- a product of two numbers with limits
pub at_most : (a b m n : ℕ) → a ≤ m → b ≤ n → a * b ≤ m * n
at_most a b m n p q = mul-le-mul p q

-- of entries that stand `step` bytes apart, each ends before the next begins
pub step_on : (first step i n : ℕ) → i < n → first + i * step + step ≤ first + n * step
step_on first step i n h = omega (arith, at_most (suc i) step n step (omega arith) (omega arith), suc-mul i step)

-- the entry of image i ends in the record
pub entry_in : (banks images i : ℕ) → i < images → entry_at banks i + entry_size banks ≤ record_size banks images
entry_in banks images i h = step_on header_size (entry_size banks) i images h

-- so does each bank's part of it
pub bank_in : (r : List ℕ) (banks images i b : ℕ) → Sized r banks images → i < images → b < banks → entry_at banks i + 32 + 24 * b + 24 ≤ length r
bank_in r banks images i b s h k = omega (arith, entry_in banks images i h, s.long)

-- and its type GUID
pub guid_in : (r : List ℕ) (banks images i : ℕ) → Sized r banks images → i < images → entry_at banks i + 16 ≤ length r
guid_in r banks images i s h = omega (arith, entry_in banks images i h, s.long)

pub header_in : (r : List ℕ) (banks images : ℕ) → Sized r banks images → header_size ≤ length r
header_in r banks images s = omega (arith, s.long)

fours : (n b : ℕ) → n * (32 + 24 * b) ≡ 4 * (n * (8 + 6 * b))
fours n b =
    let z : 32 + 24 * b ≡ (8 + 6 * b) * 4 = omega arith in
    ap (λ (k : ℕ). n * k) z ∙ sym (mul_assoc n (8 + 6 * b) 4) ∙ mul_comm (n * (8 + 6 * b)) 4

-- a record is whole words, and has a limit
pub in_words : (r : List ℕ) (banks images : ℕ) → Sized r banks images → length r ≡ 4 * (10 + images * (8 + 6 * banks))
in_words r banks images s = omega (arith, s.long, fours images banks)

pub record_high : (r : List ℕ) (banks images : ℕ) → Sized r banks images → length r ≤ record_limit
record_high r banks images s =
    omega (arith, s.long, at_most images (entry_size banks) image_limit (entry_size bank_limit) s.images_high (omega (arith, s.banks_high)))
