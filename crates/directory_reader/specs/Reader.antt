-- Which directories are taken (I9, N43 to N46), and what is shown of their headers (I10). d is the bytes of the slice
-- that is lent. Assumes nothing.
use Rattle.std.specs.Prelude.{ℕ, Bool, not, ◌&&◌, List, [], ◌∷◌, eqb, leb, ltb, length}
use Rattle.refusals.specs.declared.Refusal.TheVariants.{DirectoryShort, DirectoryHeader, DirectoryLength, DirectoryEntries}
use Rattle.refusal_order.specs.Decide.{Decision, passed, refusal, Test, decide}
use Rattle.record_layout.specs.Every.{below, distinct}
use Rattle.record_layout.specs.Layout.{image_limit}
use Rattle.directory_layout.specs.Layout.{directory_header_size, directory_entry_size, directory_size, directory_version}
use Rattle.directory_layout.specs.Layout.{version_in, array_offset_in, images_in, correct_boot_in, entry_size_in, header_reserved_in}
use Rattle.directory_layout.specs.Layout.{type_guid_in, numbers_in, entry_reserved_in}
use Rattle.directory_layout.specs.Layout.{permissions_right, boolean_right}

-- N43: below the header's length
abbrev pub short_test : (d : List ℕ) → Test
short_test d = (ltb (length d) directory_header_size, DirectoryShort)

-- what N44 asks of the header: version, array offset, image count, correct_boot, entry size, reserved
unfoldable pub header_right : List ℕ → Bool
header_right d =
    eqb (version_in d) directory_version
    && (eqb (array_offset_in d) directory_header_size
    && ((leb 1 (images_in d) && leb (images_in d) image_limit)
    && (boolean_right (correct_boot_in d) && (eqb (entry_size_in d) directory_entry_size && eqb (header_reserved_in d) 0))))

-- N44: a header field at fault
abbrev pub header_test : (d : List ℕ) → Test
header_test d = (not (header_right d), DirectoryHeader)

-- N45: any length but that of header and entries
abbrev pub whole_test : (d : List ℕ) → Test
whole_test d = (not (eqb (length d) (directory_size (images_in d))), DirectoryLength)

-- what N46 asks of each entry: permissions, accepted, reserved
unfoldable pub entry_right : List ℕ → ℕ → Bool
entry_right d k =
    permissions_right (numbers_in d k).permissions && (boolean_right (numbers_in d k).accepted && eqb (entry_reserved_in d k) 0)

-- and of all: that type GUIDs are all different
unfoldable pub entries_right : List ℕ → Bool
entries_right d = below (images_in d) (entry_right d) && distinct (images_in d) (type_guid_in d)

-- N46: an entry at fault
abbrev pub entries_test : (d : List ℕ) → Test
entries_test d = (not (entries_right d), DirectoryEntries)

-- 43, 44, 45, 46: a directory is taken where none finds a fault (I9)
unfoldable pub reader_tests : (d : List ℕ) → List Test
reader_tests d = short_test d ∷ header_test d ∷ whole_test d ∷ entries_test d ∷ []

-- ---- what is shown (I10)
-- x of a directory that is taken, z with a refusal
abbrev pub if_taken : {A : Type 0} → Decision → (x z : A) → A
if_taken passed x z = x
if_taken (refusal number values) x z = z

-- the image count and correct_boot, 0 with a refusal
unfoldable pub shown_images : List ℕ → ℕ
shown_images d = if_taken (decide (reader_tests d)) (images_in d) 0

unfoldable pub shown_correct_boot : List ℕ → ℕ
shown_correct_boot d = if_taken (decide (reader_tests d)) (correct_boot_in d) 0
