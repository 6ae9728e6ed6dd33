-- What is written is read back (I11), and what is read is what would be written (I12, I13). d is the bytes of a
-- directory; a those of an area, words the caller's. Assumes nothing.
use Rattle.std.specs.Prelude.{ℕ, ◌*◌, ◌^◌, ◌≤◌, ◌<◌, ◌≡◌, List, length, take, get_or}
use Rattle.fields.specs.Number.{Bytes, put}
use Rattle.fields.specs.Part.{part}
use Rattle.refusal_order.specs.Decide.{passed, decide, Reply, gives}
use Rattle.record_layout.specs.Layout.{image_count}
use Rattle.record_copies.specs.Copies.{record_read}
use Rattle.update_start_up.specs.StartUp.{start_up_tests}
use Rattle.directory_layout.specs.Layout.{Directory, DirectoryEntry, up_to}
use Rattle.directory_entries.specs.Installed.{words_an_image}
use Rattle.directory_writer.specs.Writer.{installed, written}
use Rattle.directory_reader.specs.Reader.{reader_tests, shown_images, shown_correct_boot}
use Rattle.directory_values.specs.Values.{shown_guid, shown_numbers}

-- a list of 32-bit words, as a slice of them holds
abbrev pub Words : List ℕ → Type 0
Words w = (i : ℕ) → get_or w i 0 < 2 ^ 32

-- the reader takes d: it gives none of 43 to 46
abbrev pub Taken : (d : List ℕ) → Type 0
Taken d = decide (reader_tests d) ≡ passed

-- all that the reader's functions show of d: entry k by the bytes of its type GUID's part and by its five numbers
abbrev pub shown_entry : (d : List ℕ) (k : ℕ) → DirectoryEntry
shown_entry d k = record { type_guid = part d (shown_guid d k).start (shown_guid d k).end; numbers = shown_numbers d k }

abbrev pub shown : (d : List ℕ) → Directory
shown d = record { correct_boot = shown_correct_boot d; entries = up_to (shown_images d) (shown_entry d) }

-- The record read in an area, with a booted bank and words, shows what was read of d: start-up refuses neither area nor
-- bank, there are enough words, and correct_boot and the entries are the same
pub record Shows (d a : List ℕ) (booted : ℕ) (words : List ℕ) : Type 0 where
  pub started : decide (start_up_tests a booted) ≡ passed
  pub enough : image_count (record_read a) * words_an_image ≤ length words
  pub same : installed (record_read a) booted words ≡ shown d

-- some area, bank and words show it
pub record SomeShow (d : List ℕ) : Type 0 where
  pub area : List ℕ
  pub booted : ℕ
  pub words : List ℕ
  pub area_bytes : Bytes area
  pub words_small : Words words
  pub shows : Shows d area booted words

pub record RoundTrip : Type 0 where
  -- I11: what the writer writes, n bytes at the front of new, the reader takes, and it shows the same
  pub written_taken : (a words out new : List ℕ) (booted n : ℕ) → Words words
      → ◌≡◌ {A = Reply ℕ × List ℕ} (written a booted words out) (gives n, new)
      → Taken (take n new) × Shows (take n new) a booted words
  -- I12: what the reader takes is byte for byte what the writer makes of any that show it, in any slice with room
  pub taken_written : (d a words out : List ℕ) (booted : ℕ) → Bytes d → Taken d → Shows d a booted words → length d ≤ length out
      → ◌≡◌ {A = Reply ℕ × List ℕ} (written a booted words out) (gives (length d), put out 0 d)
  -- I13: and for each that the reader takes, some area, bank and words show it
  pub taken_shown : (d : List ℕ) → Bytes d → Taken d → SomeShow d
