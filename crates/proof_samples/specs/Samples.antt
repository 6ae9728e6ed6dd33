-- The customer's samples 1 to 7 and 9 to 11 (docs/RULES.md, Samples), as one table under a single claim. A sample of
-- another kind joins as one more constructor of `Sample`, one more line of `holds` and its rows. Assumes nothing.
use Rattle.std.specs.Prelude.{ℕ, ◌-◌, ◌^◌, Bool, true, false, ◌&&◌, List, [], ◌∷◌, ◌≡◌, refl, eqb}
use Rattle.fields.specs.Number.{le, bytes, put}
use Rattle.gather_window.specs.Window.{within, descriptor_fits}
use Rattle.gather_descriptors.specs.Reading.{length_of, address_of, with_descriptor, jump_or_end, data_block, walk, reading}
use Rattle.gather_place.specs.Place.{apart, clear_of, clear_of_all, free, lowest, place_for}
use Rattle.gather_blocks.specs.Blocks.{block, blocks}
use Rattle.gather.specs.Gather.{Answer, refusal, place, copied_to, finished, gathered}
use Rattle.record_crc.specs.Crc.{division_step, steps, with_byte, with_bytes, crc32_of}
use Rattle.record_layout.specs.Layout.{record_size, update_bank}
use Rattle.proof_samples.specs.Windows.{descriptors, window}

-- whether two answers are the same
unfoldable pub same_answer : Answer → Answer → Bool
same_answer (refusal n) (refusal m) = eqb n m
same_answer (refusal n) (place a t) = false
same_answer (place b u) (refusal m) = false
same_answer (place b u) (place a t) = eqb b a && eqb u t

pub data Sample : Type 0 where
  -- Length and Address of the descriptors at the window's start, and what gathering from there answers
  gathering : List (ℕ × ℕ) → Answer → Sample
  -- bytes, and their CRC
  checksum : List ℕ → ℕ → Sample
  -- how many banks and images, and the record's size
  record_sized : (banks images : ℕ) → ℕ → Sample
  -- how many banks, the active one, and the update bank
  updating : (banks active : ℕ) → ℕ → Sample

unfoldable pub holds : Sample → Bool
unfolding same_answer window gathered
holds (gathering pairs answer) = same_answer (gathered (window pairs) 0x1000 0x1000).0 answer
holds (checksum bytes crc) = eqb (crc32_of bytes) crc
holds (record_sized banks images size) = eqb (record_size banks images) size
holds (updating banks active bank) = eqb (update_bank banks active) bank

unfoldable pub all_hold : List Sample → Bool
all_hold [] = true
all_hold (s ∷ ss) = holds s && all_hold ss

abbrev pub table : List Sample
table =
    -- 1. 4 bytes at 0x1040, 3 at 0x1050
    gathering ((4, 0x1040) ∷ (3, 0x1050) ∷ []) (place 0x1030 7)
    -- 2. 4 and 12
    ∷ gathering ((4, 0x1040) ∷ (12, 0x1050) ∷ []) (place 0x1030 16)
    -- 3. 4 and 13
    ∷ gathering ((4, 0x1040) ∷ (13, 0x1050) ∷ []) (place 0x105D 17)
    -- 4. first block at 0x0FFF; at 0x10FC, 4 bytes; at 0x10FD
    ∷ gathering ((4, 0x0FFF) ∷ (3, 0x1050) ∷ []) (refusal 4)
    ∷ gathering ((4, 0x10FC) ∷ (3, 0x1050) ∷ []) (place 0x1030 7)
    ∷ gathering ((4, 0x10FD) ∷ (3, 0x1050) ∷ []) (refusal 4)
    -- 5. jump to itself. 6. end alone. 7. length 2^64 - 1 at 0x1040
    ∷ gathering ((0, 0x1000) ∷ []) (refusal 2)
    ∷ gathering [] (refusal 6)
    ∷ gathering ((2 ^ 64 - 1, 0x1040) ∷ []) (refusal 4)
    -- 9. the ASCII bytes 123456789
    ∷ checksum (49 ∷ 50 ∷ 51 ∷ 52 ∷ 53 ∷ 54 ∷ 55 ∷ 56 ∷ 57 ∷ []) 0xCBF43926
    -- 10. 2 banks, 1 image; 2 and 3; 4 and 32
    ∷ record_sized 2 1 120
    ∷ record_sized 2 3 280
    ∷ record_sized 4 32 4136
    -- 11. 2 banks, active 0; 3 banks, active 2
    ∷ updating 2 0 1
    ∷ updating 3 2 0
    ∷ []

pub samples : all_hold table ≡ true
unfolding all_hold holds same_answer division_step steps with_byte with_bytes crc32_of window descriptors bytes le put within length_of address_of
    descriptor_fits with_descriptor jump_or_end data_block walk reading apart clear_of clear_of_all free lowest place_for block blocks
    copied_to finished gathered
samples = refl
