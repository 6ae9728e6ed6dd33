-- How long the lines are: 4,096 bytes hold those of every sound record. Assumes nothing.
use mathlib.Core.Path.{◌≡◌, refl}
use mathlib.Core.Bool.{true}
use mathlib.Core.List.{List, [], ◌∷◌, ◌++◌}
use Prim.Native.Nat.{ℕ, ◌+◌, ◌≤◌, ◌<◌}
use native.Mathlib.Omega.{arith}
use lib.ListN.{length, length-append}
use Rattle.record_layout.specs.Layout.{active, previous, size, state, bank_count, image_count, accepted}
use Rattle.record_layout.specs.Rules.{sound}
use Rattle.record_layout.proofs.Sound.{sound_accepted}
use Rattle.report_text.specs.Text.{ascii, decimal, numbers, line, ascending}
use Rattle.report_text.specs.Wrote.{Room}
use Rattle.report_text.proofs.Digits.{one_digit, two_digits, three_digits, four_digits}
use Rattle.report_text.proofs.Lines.{ascending_short}
use Rattle.report_lines.specs.Lines.{bank_line, image_line, image_lines, head_lines, record_lines}
use Rattle.report_lines.proofs.Known.{few_banks, few_images, small_size, small_active, small_previous, state_byte}

-- how long a line is
length_numbers : (n : ℕ) (ns : List ℕ) → length (numbers (n ∷ ns)) ≡ 1 + length (decimal n) + length (numbers ns)
unfolding numbers
length_numbers n ns = omega (arith, length-append (decimal n) (numbers ns))

pub length_line : (word : List ℕ) (n : ℕ) (ns : List ℕ) → length (line word (n ∷ ns)) ≡ length word + 1 + length (decimal n) + length (numbers ns)
unfolding line
length_line word n ns = omega (arith, length-append word (numbers (n ∷ ns)), length_numbers n ns)

pub length_end : length (numbers []) ≡ 1
unfolding numbers
length_end = refl

module _ (r : List ℕ) (e : sound r ≡ true) where
  head_short : (copy : ℕ) → copy < 10 → length (head_lines copy r) ≤ 34
  unfolding head_lines
  head_short copy h =
      let record-line = line (ascii "record") (copy ∷ size r ∷ []) in
      let active-line = line (ascii "active") (active r ∷ []) in
      let previous-line = line (ascii "previous") (previous r ∷ []) in
      omega (
        arith,
        length-append record-line (active-line ++ previous-line),
        length-append active-line previous-line,
        length_line (ascii "record") copy (size r ∷ []),
        length_numbers (size r) [],
        length_line (ascii "active") (active r) [],
        length_line (ascii "previous") (previous r) [],
        length_end,
        one_digit copy h,
        four_digits (size r) (omega (arith, small_size r e)),
        one_digit (active r) (omega (arith, small_active r e)),
        one_digit (previous r) (omega (arith, small_previous r e)),
      )

  bank_short : (b : ℕ) → b < bank_count r → length (bank_line r b) ≤ 11
  unfolding bank_line
  bank_short b h =
      omega (
        arith,
        length_line (ascii "bank") b (state r b ∷ []),
        length_numbers (state r b) [],
        length_end,
        one_digit b (omega (arith, few_banks r e)),
        three_digits (state r b) (omega (arith, state_byte r e b h)),
      )

  image_short : (i b : ℕ) → i < image_count r → b < bank_count r → length (image_line r i b) ≤ 13
  unfolding image_line
  image_short i b p q =
      omega (
        arith,
        length_line (ascii "image") i (b ∷ accepted r i b ∷ []),
        length_numbers b (accepted r i b ∷ []),
        length_numbers (accepted r i b) [],
        length_end,
        two_digits i (omega (arith, few_images r e)),
        one_digit b (omega (arith, few_banks r e)),
        one_digit (accepted r i b) (omega (arith, sound_accepted r i b e p q)),
      )

  images_short : (i : ℕ) → i < image_count r → length (image_lines r i) ≤ 52
  unfolding image_lines
  images_short i p = omega (arith, ascending_short (image_line r i) (bank_count r) 13 (λ b q. image_short i b p q), few_banks r e)

  record_short : (copy : ℕ) → copy < 10 → length (record_lines copy r) ≤ 4096
  unfolding record_lines
  record_short copy h =
      let banks = ascending (bank_count r) (bank_line r) in
      let images = ascending (image_count r) (image_lines r) in
      omega (
        arith,
        length-append (head_lines copy r) (banks ++ images),
        length-append banks images,
        head_short copy h,
        ascending_short (bank_line r) (bank_count r) 11 bank_short,
        ascending_short (image_lines r) (image_count r) 52 images_short,
        few_banks r e,
        few_images r e,
      )

  pub record_room : (copy : ℕ) (out : List ℕ) → copy < 10 → 4096 ≤ length out → Room 0 (record_lines copy r) out
  record_room copy out h l = omega (arith, record_short copy h)
