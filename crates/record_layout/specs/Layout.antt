-- Record version 2: where each field stands (R1 to R3). r is the bytes of a record, the first at offset 0. The
-- definitions take sizes, limits and offsets from here. Assumes nothing.
use Rattle.std.specs.Prelude.{ℕ, ◌+◌, ◌*◌, ◌%◌, cond, List, leb, take, drop, get_or}
use Rattle.fields.specs.Number.{le}
use Rattle.fields.specs.Guid.{guid}

-- R1: an area and its copies
abbrev pub area_size : ℕ
area_size = 16384

abbrev pub copy_size : ℕ
copy_size = 8192

abbrev pub copy_at : ℕ → List ℕ → List ℕ
copy_at base a = take copy_size (drop base a)

abbrev pub copy0 : List ℕ → List ℕ
copy0 a = take copy_size a

abbrev pub copy1 : List ℕ → List ℕ
copy1 a = take copy_size (drop copy_size a)

-- R2: the header's length, behind which the entries start
abbrev pub header_size : ℕ
header_size = 40

-- R7: how many banks there are at most, and as many bytes of bank states
abbrev pub bank_limit : ℕ
bank_limit = 4

-- R8: how many images there are at most
abbrev pub image_limit : ℕ
image_limit = 32

-- R2: the fields of the header
abbrev pub crc_at : ℕ
crc_at = 0

abbrev pub version_at : ℕ
version_at = 4

abbrev pub active_at : ℕ
active_at = 8

abbrev pub previous_at : ℕ
previous_at = 12

abbrev pub crc : List ℕ → ℕ
crc r = le 4 r crc_at

abbrev pub version : List ℕ → ℕ
version r = le 4 r version_at

abbrev pub active : List ℕ → ℕ
active r = le 4 r active_at

abbrev pub previous : List ℕ → ℕ
previous r = le 4 r previous_at

abbrev pub size : List ℕ → ℕ
size r = le 4 r 16

abbrev pub descriptor_offset : List ℕ → ℕ
descriptor_offset r = le 2 r 20

abbrev pub reserved22 : List ℕ → ℕ
reserved22 r = le 2 r 22

-- a byte for each of four banks
abbrev pub state_at : ℕ → ℕ
state_at b = 24 + b

abbrev pub state : List ℕ → ℕ → ℕ
state r b = get_or r (state_at b) 0

abbrev pub reserved28 : List ℕ → ℕ
reserved28 r = le 4 r 28

abbrev pub bank_count : List ℕ → ℕ
bank_count r = get_or r 32 0

abbrev pub reserved33 : List ℕ → ℕ
reserved33 r = get_or r 33 0

abbrev pub image_count : List ℕ → ℕ
image_count r = le 2 r 34

abbrev pub image_entry_size : List ℕ → ℕ
image_entry_size r = le 2 r 36

abbrev pub bank_entry_size : List ℕ → ℕ
bank_entry_size r = le 2 r 38

-- R3: how long an image's entry is for that many banks
abbrev pub entry_size : ℕ → ℕ
entry_size banks = 32 + 24 * banks

-- R11: the size of a record
abbrev pub record_size : ℕ → ℕ → ℕ
record_size banks images = header_size + images * entry_size banks

-- the longest record that the two counts allow: 4,136 bytes. Facts about the length of a record are stated over it
abbrev pub record_limit : ℕ
record_limit = record_size bank_limit image_limit

-- the entry of image i
abbrev pub entry_at : ℕ → ℕ → ℕ
entry_at banks i = header_size + i * entry_size banks

-- its type GUID comes first
abbrev pub type_guid : List ℕ → ℕ → List ℕ
type_guid r i = guid r (entry_at (bank_count r) i)

-- R3: what an image's entry has of each bank
abbrev pub bank_entry_at : ℕ → ℕ → ℕ → ℕ
bank_entry_at banks i b = entry_at banks i + 32 + 24 * b

abbrev pub accepted_at : ℕ → ℕ → ℕ → ℕ
accepted_at banks i b = bank_entry_at banks i b + 16

abbrev pub reserved_at : ℕ → ℕ → ℕ → ℕ
reserved_at banks i b = bank_entry_at banks i b + 20

abbrev pub accepted : List ℕ → ℕ → ℕ → ℕ
accepted r i b = le 4 r (accepted_at (bank_count r) i b)

abbrev pub reserved : List ℕ → ℕ → ℕ → ℕ
reserved r i b = le 4 r (reserved_at (bank_count r) i b)

-- the record in a copy: as many bytes as its size says, and the header in any case, so that its fields can be judged.
-- Where the size is right it is never below the header's. Where it is above 8,192, `take` stops at the copy's end: the
-- record is then shorter than its size says, and R11 fails
unfoldable pub record_of : List ℕ → List ℕ
record_of c = take (cond (leb header_size (size c)) (size c) header_size) c

-- the update bank (S4)
abbrev pub update_bank : (banks active : ℕ) → ℕ
update_bank banks active = (active + 1) % banks
