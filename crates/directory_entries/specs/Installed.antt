-- The entry of each image in the directory that is written (I6, I7). r is the bytes of the record read, words the
-- caller's. Assumes nothing.
use Rattle.std.specs.Prelude.{ℕ, ◌+◌, ◌*◌, List, get_or}
use Rattle.record_layout.specs.Layout.{type_guid, accepted}
use Rattle.directory_layout.specs.Layout.{DirectoryEntry}

-- I6: four words for each image, in the order of its entry's fields
abbrev pub words_an_image : ℕ
words_an_image = 4

abbrev pub word_for : (words : List ℕ) (i place : ℕ) → ℕ
word_for words i place = get_or words (i * words_an_image + place) 0

-- the entry of image i: its type GUID from the record, four numbers from the caller, and its accepted flag in the
-- booted bank (I7)
abbrev pub installed_entry : (r : List ℕ) (booted : ℕ) (words : List ℕ) (i : ℕ) → DirectoryEntry
installed_entry r booted words i =
    record {
      type_guid = type_guid r i;
      numbers =
          record {
            permissions = word_for words i 0;
            maximum_size = word_for words i 1;
            lowest_accepted_version = word_for words i 2;
            version = word_for words i 3;
            accepted = accepted r i booted;
          };
    }
