-- A directory by its bytes: what the writer makes of a record of two banks and one image, booted in either, and what the
-- reader says of that and of directories with one fault. The image is accepted in bank 0, which is active, and not in
-- bank 1. Copy 1 and the bytes behind the record may be anything. Assumes nothing.
use Rattle.std.specs.Prelude.{◌≡◌, refl, true, List, [], ◌∷◌, ◌++◌, ℕ, ◌≤◌, eqb, length, take}
use Rattle.std.proofs.Common.{arith, eq-eqb, le-ltb, length-append}
use Rattle.fields.specs.Number.{le, bytes, put, words_bytes}
use Rattle.fields.specs.Guid.{guid, same}
use Rattle.refusals.specs.declared.Refusal.TheVariants.{DirectoryShort, DirectoryHeader, DirectoryLength, DirectoryEntries}
use Rattle.refusal_order.specs.Decide.{passed, refused, decide, Reply, gives}
use Rattle.record_crc.specs.Crc.{division_step, steps, with_byte, with_bytes, crc32_of}
use Rattle.record_layout.specs.Every.{below}
use Rattle.record_layout.specs.Layout.{area_size, record_of}
use Rattle.record_layout.specs.Rules as rule
use Rattle.record_copies.specs.Copies.{source_of, read_from}
use Rattle.update_admission.specs.Rows.{read_tests}
use Rattle.update_start_up.specs.StartUp.{started_session, start_up_tests}
use Rattle.directory_layout.specs.Layout.{header_bytes, entry_bytes, entries_bytes, directory_bytes, up_to}
use Rattle.directory_writer.specs.Writer.{writer_tests, written_by, written}
use Rattle.directory_reader.specs.Reader.{header_right, entry_right, entries_right, reader_tests}

-- the record's 120 bytes: active 0, previous 1, states 252 and 254, type GUID 17 to 32
abbrev pub example_record : List ℕ
example_record =
    131 ∷ 71 ∷ 90 ∷ 147 ∷ 2 ∷ 0 ∷ 0 ∷ 0 ∷ 0 ∷ 0 ∷ 0 ∷ 0 ∷ 1 ∷ 0 ∷ 0 ∷ 0 ∷ 120 ∷ 0 ∷ 0 ∷ 0 ∷
    32 ∷ 0 ∷ 0 ∷ 0 ∷ 252 ∷ 254 ∷ 255 ∷ 255 ∷ 0 ∷ 0 ∷ 0 ∷ 0 ∷ 2 ∷ 0 ∷ 1 ∷ 0 ∷ 80 ∷ 0 ∷ 24 ∷ 0 ∷
    17 ∷ 18 ∷ 19 ∷ 20 ∷ 21 ∷ 22 ∷ 23 ∷ 24 ∷ 25 ∷ 26 ∷ 27 ∷ 28 ∷ 29 ∷ 30 ∷ 31 ∷ 32 ∷ 0 ∷ 0 ∷ 0 ∷ 0 ∷
    0 ∷ 0 ∷ 0 ∷ 0 ∷ 0 ∷ 0 ∷ 0 ∷ 0 ∷ 0 ∷ 0 ∷ 0 ∷ 0 ∷ 0 ∷ 0 ∷ 0 ∷ 0 ∷ 0 ∷ 0 ∷ 0 ∷ 0 ∷
    0 ∷ 0 ∷ 0 ∷ 0 ∷ 0 ∷ 0 ∷ 0 ∷ 0 ∷ 1 ∷ 0 ∷ 0 ∷ 0 ∷ 0 ∷ 0 ∷ 0 ∷ 0 ∷ 0 ∷ 0 ∷ 0 ∷ 0 ∷
    0 ∷ 0 ∷ 0 ∷ 0 ∷ 0 ∷ 0 ∷ 0 ∷ 0 ∷ 0 ∷ 0 ∷ 0 ∷ 0 ∷ 0 ∷ 0 ∷ 0 ∷ 0 ∷ 0 ∷ 0 ∷ 0 ∷ 0 ∷ []

-- permissions write and activate first, maximum size 4,096, lowest accepted version 3, version 7
abbrev pub example_words : List ℕ
example_words = 5 ∷ 4096 ∷ 3 ∷ 7 ∷ []

-- the header's 24 bytes: version 2, offset 24, one image, correct_boot as given, entry size 40; and the entry's 40, with
-- permissions and accepted as given
abbrev pub header : (correct_boot : ℕ) → List ℕ
header correct_boot =
    2 ∷ 0 ∷ 0 ∷ 0 ∷ 24 ∷ 0 ∷ 0 ∷ 0 ∷ 1 ∷ 0 ∷ 0 ∷ 0 ∷ correct_boot ∷ 0 ∷ 0 ∷ 0 ∷ 40 ∷ 0 ∷ 0 ∷ 0 ∷ 0 ∷ 0 ∷ 0 ∷ 0 ∷ []

abbrev pub entry : (permissions accepted : ℕ) → List ℕ
entry permissions accepted =
    17 ∷ 18 ∷ 19 ∷ 20 ∷ 21 ∷ 22 ∷ 23 ∷ 24 ∷ 25 ∷ 26 ∷ 27 ∷ 28 ∷ 29 ∷ 30 ∷ 31 ∷ 32 ∷
    permissions ∷ 0 ∷ 0 ∷ 0 ∷ 0 ∷ 16 ∷ 0 ∷ 0 ∷ 3 ∷ 0 ∷ 0 ∷ 0 ∷ 7 ∷ 0 ∷ 0 ∷ 0 ∷ accepted ∷ 0 ∷ 0 ∷ 0 ∷ 0 ∷ 0 ∷ 0 ∷ 0 ∷ []

-- the area has its length
long : (rest : List ℕ) → length rest ≡ 16264 → eqb (length (example_record ++ rest)) area_size ≡ true
long rest h = eq-eqb (length (example_record ++ rest)) area_size (omega (arith, length-append example_record rest))

-- what is written where that bank booted, with correct_boot and the image's accepted flag as given
abbrev pub Writes : (booted correct_boot accepted : ℕ) → Type 0
Writes booted correct_boot accepted =
    (rest out : List ℕ) → length rest ≡ 16264 → 64 ≤ length out
    → ◌≡◌ {A = Reply ℕ × List ℕ} (written (example_record ++ rest) booted example_words out)
    (gives 64, put out 0 (header correct_boot ++ entry 5 accepted))

-- booted in the active bank, and in the other: each has its own flag
pub record WrittenExamples : Type 0 where
  pub active : Writes 0 1 1
  pub fallback : Writes 1 0 0

pub written_examples : WrittenExamples
unfolding written written_by writer_tests start_up_tests read_tests decide started_session source_of read_from record_of rule.sound_copy
    rule.sound rule.version_rule rule.bank_count_rule rule.image_count_rule rule.bank_entry_size_rule rule.image_entry_size_rule
    rule.size_rule rule.descriptor_offset_rule rule.reserved_rule rule.banks_named_rule rule.accepted_rule rule.type_guids_rule
    rule.state_allowed rule.states_rule rule.all_accepted rule.bank_consistent rule.banks_rule rule.crc_rule below le bytes guid same
    division_step steps with_byte with_bytes crc32_of words_bytes header_bytes entry_bytes entries_bytes directory_bytes up_to
written_examples =
    record {
      active = λ rest out h room. rw (long rest h, le-ltb (length out) 64 room);
      fallback = λ rest out h room. rw (long rest h, le-ltb (length out) 64 room);
    }

-- the reader: taken with either boot flag and with permissions 7; 43 to 46
pub record ReadExamples : Type 0 where
  pub taken : decide (reader_tests (header 0 ++ entry 5 0)) ≡ passed
  pub taken_otherwise : decide (reader_tests (header 1 ++ entry 7 1)) ≡ passed
  pub short : decide (reader_tests (take 23 (header 0))) ≡ refused DirectoryShort
  pub boot_2 : decide (reader_tests (header 2 ++ entry 5 0)) ≡ refused DirectoryHeader
  pub one_byte_more : decide (reader_tests (header 0 ++ entry 5 0 ++ (0 ∷ []))) ≡ refused DirectoryLength
  pub header_alone : decide (reader_tests (header 0)) ≡ refused DirectoryLength
  pub accepted_2 : decide (reader_tests (header 0 ++ entry 5 2)) ≡ refused DirectoryEntries
  pub permissions_8 : decide (reader_tests (header 0 ++ entry 8 0)) ≡ refused DirectoryEntries

pub read_examples : ReadExamples
unfolding reader_tests decide header_right entry_right entries_right below le guid same
read_examples =
    record {
      taken = refl;
      taken_otherwise = refl;
      short = refl;
      boot_2 = refl;
      one_byte_more = refl;
      header_alone = refl;
      accepted_2 = refl;
      permissions_8 = refl;
    }
