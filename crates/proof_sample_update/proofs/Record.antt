-- The conditions can be met: an area that holds the record of the report's example twice (two banks, one image,
-- all accepted, active 0, previous 1), its CRC worked by the plain division. Assumes nothing.
use mathlib.Core.Path.{◌≡◌, refl, ◌∙◌}
use mathlib.Core.Bool.{Bool, true, ◌&&◌}
use mathlib.Core.List.{List, [], ◌∷◌, ◌++◌}
use Prim.Native.Nat.{ℕ, zero, suc, ◌+◌}
use native.Mathlib.Omega.{arith}
use borrow.Author.Tests.{ltb-true}
use lib.Dec.{ltb}
use lib.ListN.{length, replicate, length-replicate, length-append}
use Rattle.fields.specs.Number.{Bytes, le}
use Rattle.fields.specs.Guid.{guid, same}
use Rattle.fields.proofs.Tests.{both}
use Rattle.fields.proofs.Bytes.{append_bytes, zero_bytes}
use Rattle.record_crc.specs.Crc.{division_step, steps, with_byte, with_bytes, crc32_of}
use Rattle.record_layout.specs.Every.{below}
use Rattle.record_layout.specs.Layout.{area_size, copy_size}
use Rattle.record_layout.specs.Rules as rule
use Rattle.record_copies.specs.Copies.{sound_and_equal}
use Rattle.proof_format_cuts.proofs.Copy.{Holds, starts_holds}
use Rattle.proof_format_cuts.proofs.Cut.{both_hold}
use Rattle.proof_record_cuts.specs.Version2.{version2}
use Rattle.proof_record_cuts.specs.Cuts.{BothHold}
use Rattle.proof_record_cuts.proofs.Version2.{version2_laws}
use Rattle.proof_record_cuts.proofs.Cuts.{both_of, equal}

-- the record's 120 bytes
unfoldable pub sample_record : List ℕ
sample_record =
    249 ∷ 251 ∷ 88 ∷ 245 ∷ 2 ∷ 0 ∷ 0 ∷ 0 ∷ 0 ∷ 0 ∷ 0 ∷ 0 ∷ 1 ∷ 0 ∷ 0 ∷ 0 ∷ 120 ∷ 0 ∷ 0 ∷ 0 ∷
    32 ∷ 0 ∷ 0 ∷ 0 ∷ 252 ∷ 252 ∷ 255 ∷ 255 ∷ 0 ∷ 0 ∷ 0 ∷ 0 ∷ 2 ∷ 0 ∷ 1 ∷ 0 ∷ 80 ∷ 0 ∷ 24 ∷ 0 ∷
    0 ∷ 0 ∷ 0 ∷ 0 ∷ 0 ∷ 0 ∷ 0 ∷ 0 ∷ 0 ∷ 0 ∷ 0 ∷ 0 ∷ 0 ∷ 0 ∷ 0 ∷ 0 ∷ 0 ∷ 0 ∷ 0 ∷ 0 ∷
    0 ∷ 0 ∷ 0 ∷ 0 ∷ 0 ∷ 0 ∷ 0 ∷ 0 ∷ 0 ∷ 0 ∷ 0 ∷ 0 ∷ 0 ∷ 0 ∷ 0 ∷ 0 ∷ 0 ∷ 0 ∷ 0 ∷ 0 ∷
    0 ∷ 0 ∷ 0 ∷ 0 ∷ 0 ∷ 0 ∷ 0 ∷ 0 ∷ 1 ∷ 0 ∷ 0 ∷ 0 ∷ 0 ∷ 0 ∷ 0 ∷ 0 ∷ 0 ∷ 0 ∷ 0 ∷ 0 ∷
    0 ∷ 0 ∷ 0 ∷ 0 ∷ 0 ∷ 0 ∷ 0 ∷ 0 ∷ 0 ∷ 0 ∷ 0 ∷ 0 ∷ 1 ∷ 0 ∷ 0 ∷ 0 ∷ 0 ∷ 0 ∷ 0 ∷ 0 ∷ []

sample_sound : rule.sound sample_record ≡ true
unfolding sample_record rule.sound rule.version_rule rule.bank_count_rule rule.image_count_rule rule.bank_entry_size_rule rule.image_entry_size_rule
    rule.size_rule rule.descriptor_offset_rule rule.reserved_rule rule.banks_named_rule rule.accepted_rule rule.type_guids_rule rule.state_allowed
    rule.states_rule rule.all_accepted rule.bank_consistent rule.banks_rule rule.crc_rule below le guid same division_step steps with_byte with_bytes crc32_of
sample_sound = refl

-- bytes
abbrev small : List ℕ → Bool
small [] = true
small (x ∷ xs) = ltb x 256 && small xs

small_bytes : (l : List ℕ) → small l ≡ true → Bytes l
small_bytes [] e i = omega arith
small_bytes (x ∷ xs) e zero = ltb-true x 256 (both (ltb x 256) (small xs) e).0
small_bytes (x ∷ xs) e (suc i) = small_bytes xs (both (ltb x 256) (small xs) e).1 i

sample_bytes : Bytes sample_record
unfolding sample_record
sample_bytes = small_bytes sample_record refl

-- a copy, and the area
unfoldable pub sample_copy : List ℕ
sample_copy = sample_record ++ replicate 8072 0

unfoldable pub sample_area : List ℕ
sample_area = sample_copy ++ sample_copy

copy_length : length sample_copy ≡ copy_size
unfolding sample_copy sample_record
copy_length = length-append sample_record (replicate 8072 0) ∙ omega (arith, length-replicate {A = ℕ} 8072 0)

copy_bytes : Bytes sample_copy
unfolding sample_copy
copy_bytes = append_bytes sample_record (replicate 8072 0) sample_bytes (zero_bytes 8072)

copy_holds : Holds version2 sample_record sample_copy
unfolding sample_copy version2
copy_holds = starts_holds version2 version2_laws sample_record (replicate 8072 0) sample_sound

pub sample_long : length sample_area ≡ area_size
unfolding sample_area
sample_long = length-append sample_copy sample_copy ∙ omega (arith, copy_length)

pub sample_area_bytes : Bytes sample_area
unfolding sample_area
sample_area_bytes = append_bytes sample_copy sample_copy copy_bytes copy_bytes

pub sample_both : BothHold sample_area sample_record
unfolding sample_area version2
sample_both =
    both_of sample_area sample_record
    (both_hold version2 sample_area sample_copy sample_copy refl copy_length copy_length sample_record copy_holds copy_holds)

pub sample_equal : sound_and_equal sample_area ≡ true
sample_equal = equal sample_area sample_record sample_both
