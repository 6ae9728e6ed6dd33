-- What the writer of an image directory answers and writes (I5 to I8, N40 to N42). a is the bytes of the area, r those
-- of the record read, words the caller's. Assumes nothing.
use Rattle.std.specs.Prelude.{ℕ, ◌*◌, not, List, [], ◌∷◌, ◌++◌, ltb, length}
use Rattle.fields.specs.Number.{put}
use Rattle.refusals.specs.declared.Refusal.TheVariants.{DirectoryWords, DirectoryPermissions, DirectoryRoom}
use Rattle.refusal_order.specs.Decide.{Decision, passed, refusal, Test, decide, Reply, gives, refuses}
use Rattle.record_layout.specs.Every.{below}
use Rattle.record_layout.specs.Layout.{image_count}
use Rattle.record_copies.specs.Copies.{record_read}
use Rattle.update_session.specs.declared.Session.{Session}
use Rattle.update_session.specs.declared.Session.TheVariants.{Regular, Staging, Trial, Fallback, Restart}
use Rattle.update_start_up.specs.StartUp.{started_session, start_up_tests}
use Rattle.directory_layout.specs.Layout.{Directory, directory_bytes, directory_size, up_to, permissions_right}
use Rattle.directory_entries.specs.Installed.{words_an_image, word_for, installed_entry}

-- I5: correct_boot is 0 exactly where start-up answers Fallback; it never answers Staging or Restart
abbrev pub correct_boot_of : Session → ℕ
correct_boot_of Regular = 1
correct_boot_of (Staging bank set) = 1
correct_boot_of Trial = 1
correct_boot_of Fallback = 0
correct_boot_of Restart = 1

-- what the directory of a record, a booted bank and the caller's words holds
abbrev pub installed : (r : List ℕ) (booted : ℕ) (words : List ℕ) → Directory
installed r booted words =
    record {
      correct_boot = correct_boot_of (started_session r booted);
      entries = up_to (image_count r) (installed_entry r booted words);
    }

-- N40: fewer than four words for each image
abbrev pub words_test : (r words : List ℕ) → Test
words_test r words = (ltb (length words) (image_count r * words_an_image), DirectoryWords)

-- N41: the permissions given for one of the record's images have one of bits 31 to 3
abbrev pub permissions_test : (r words : List ℕ) → Test
permissions_test r words = (not (below (image_count r) (λ i. permissions_right (word_for words i 0))), DirectoryPermissions)

-- N42: the output slice is shorter than the directory
abbrev pub room_test : (r : List ℕ) (room : ℕ) → Test
room_test r room = (ltb room (directory_size (image_count r)), DirectoryRoom)

-- 40, 41, 42
abbrev pub directory_tests : (r words : List ℕ) (room : ℕ) → List Test
directory_tests r words room = words_test r words ∷ permissions_test r words ∷ room_test r room ∷ []

-- behind those of start-up: 20, 21, 28
unfoldable pub writer_tests : (a : List ℕ) (booted : ℕ) (words : List ℕ) (room : ℕ) → List Test
writer_tests a booted words room = start_up_tests a booted ++ directory_tests (record_read a) words room

-- I8: how many bytes were written, and the output slice afterwards: the directory at its front, every byte past it as it
-- was; with a refusal every byte
unfoldable pub written_by : Decision → (directory out : List ℕ) → Reply ℕ × List ℕ
written_by passed directory out = (gives (length directory), put out 0 directory)
written_by (refusal number values) directory out = (refuses number values, out)

unfoldable pub written : (a : List ℕ) (booted : ℕ) (words out : List ℕ) → Reply ℕ × List ℕ
written a booted words out =
    written_by (decide (writer_tests a booted words (length out))) (directory_bytes (installed (record_read a) booted words)) out
