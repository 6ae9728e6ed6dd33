-- The image directory, version 2 (I1 to I4): what it holds, its bytes, and its fields by name. d is the bytes of a
-- directory. Assumes nothing.
use Rattle.std.specs.Prelude.{ℕ, zero, suc, ◌+◌, ◌*◌, ◌/◌, Bool, List, [], ◌∷◌, ◌++◌, eqb, leb, length}
use Rattle.fields.specs.Number.{le, words_bytes}
use Rattle.fields.specs.Guid.{guid}

-- I1: the lengths of the header, behind which the entries start, and of an entry
abbrev pub directory_header_size : ℕ
directory_header_size = 24

abbrev pub directory_entry_size : ℕ
directory_entry_size = 40

-- where entry k starts
abbrev pub entry_start : ℕ → ℕ
entry_start k = directory_header_size + k * directory_entry_size

-- the length of a directory of so many entries: it ends where one more would start
abbrev pub directory_size : ℕ → ℕ
directory_size images = entry_start images

-- the version that is written and read
abbrev pub directory_version : ℕ
directory_version = 2

-- I3: the five numbers of an entry, as client_permissions, img_max_size, lowest_accepted_version, img_version, accepted
pub record EntryNumbers : Type 0 where
  pub permissions : ℕ
  pub maximum_size : ℕ
  pub lowest_accepted_version : ℕ
  pub version : ℕ
  pub accepted : ℕ

-- one behind another, in that order
abbrev pub five : EntryNumbers → List ℕ
five n = n.permissions ∷ n.maximum_size ∷ n.lowest_accepted_version ∷ n.version ∷ n.accepted ∷ []

-- I3: an entry, by img_type_guid and the five
pub record DirectoryEntry : Type 0 where
  pub type_guid : List ℕ
  pub numbers : EntryNumbers

-- what a directory holds: correct_boot and the entries
pub record Directory : Type 0 where
  pub correct_boot : ℕ
  pub entries : List DirectoryEntry

-- the list of what f gives at the numbers below n, ascending
unfoldable pub up_to : {A : Type 0} → ℕ → (ℕ → A) → List A
up_to zero f = []
up_to (suc n) f = up_to n f ++ (f n ∷ [])

-- ---- the bytes of a directory
-- I2: directory_version, img_info_offset, num_images, correct_boot, img_info_size, reserved
unfoldable pub header_bytes : (images correct_boot : ℕ) → List ℕ
header_bytes images correct_boot =
    words_bytes (directory_version ∷ directory_header_size ∷ images ∷ correct_boot ∷ directory_entry_size ∷ 0 ∷ [])

-- I3: the type GUID, the five numbers, reserved
unfoldable pub entry_bytes : DirectoryEntry → List ℕ
entry_bytes e = e.type_guid ++ words_bytes (five e.numbers ++ (0 ∷ []))

unfoldable pub entries_bytes : List DirectoryEntry → List ℕ
entries_bytes [] = []
entries_bytes (e ∷ es) = entry_bytes e ++ entries_bytes es

unfoldable pub directory_bytes : Directory → List ℕ
directory_bytes x = header_bytes (length x.entries) x.correct_boot ++ entries_bytes x.entries

-- ---- its fields by their offsets
-- I2
abbrev pub version_in : List ℕ → ℕ
version_in d = le 4 d 0

abbrev pub array_offset_in : List ℕ → ℕ
array_offset_in d = le 4 d 4

abbrev pub images_in : List ℕ → ℕ
images_in d = le 4 d 8

abbrev pub correct_boot_in : List ℕ → ℕ
correct_boot_in d = le 4 d 12

abbrev pub entry_size_in : List ℕ → ℕ
entry_size_in d = le 4 d 16

abbrev pub header_reserved_in : List ℕ → ℕ
header_reserved_in d = le 4 d 20

-- I3: those of entry k, the type GUID at its start
abbrev pub type_guid_in : List ℕ → ℕ → List ℕ
type_guid_in d k = guid d (entry_start k)

abbrev pub numbers_in : List ℕ → ℕ → EntryNumbers
numbers_in d k =
    record {
      permissions = le 4 d (entry_start k + 16);
      maximum_size = le 4 d (entry_start k + 20);
      lowest_accepted_version = le 4 d (entry_start k + 24);
      version = le 4 d (entry_start k + 28);
      accepted = le 4 d (entry_start k + 32);
    }

abbrev pub entry_reserved_in : List ℕ → ℕ → ℕ
entry_reserved_in d k = le 4 d (entry_start k + 36)

-- ---- what is asked of a field, by the writer or the reader
-- I4: bits 31 to 3 of permissions are zero
abbrev pub permissions_right : ℕ → Bool
permissions_right p = eqb (p / 8) 0

-- a boolean is 0 or 1
abbrev pub boolean_right : ℕ → Bool
boolean_right v = leb v 1
