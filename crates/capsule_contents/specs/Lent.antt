-- What is lent to the packer (C26, C27): three slices of bytes, and two tables of the parts of them that are to be
-- packed. Numbers in a table are little-endian. Assumes nothing.
use Rattle.std.specs.Prelude.{ℕ, ◌+◌, ◌*◌, ◌/◌, List, length, get_or}
use Rattle.fields.specs.Number.{le}
use Rattle.fields.specs.Guid.{guid}
use Rattle.fields.specs.Part.{part, Range, range}
use Rattle.capsule_contents.specs.Contents.{PayloadContents, Contents}

-- flags; the slices that hold drivers, images and vendor codes, each with any bytes besides; a table of the drivers and
-- one of the payloads
pub record Lent : Type 0 where
  pub flags : ℕ
  pub driver_slice : List ℕ
  pub driver_table : List ℕ
  pub image_slice : List ℕ
  pub vendor_code_slice : List ℕ
  pub payload_table : List ℕ

abbrev pub lent : (flags : ℕ) (driver_slice driver_table image_slice vendor_code_slice payload_table : List ℕ) → Lent
lent flags driver_slice driver_table image_slice vendor_code_slice payload_table =
    record {
      flags = flags;
      driver_slice = driver_slice;
      driver_table = driver_table;
      image_slice = image_slice;
      vendor_code_slice = vendor_code_slice;
      payload_table = payload_table;
    }

-- C27: the lengths of the tables' entries. A rest that is shorter is no entry
abbrev pub driver_entry_size : ℕ
driver_entry_size = 16

abbrev pub payload_entry_size : ℕ
payload_entry_size = 64

abbrev pub drivers_in : (table : List ℕ) → ℕ
drivers_in table = length table / driver_entry_size

abbrev pub payloads_in : (table : List ℕ) → ℕ
payloads_in table = length table / payload_entry_size

-- a part, where a table tells it: its start in its slice and, 8 bytes on, its length (64 bits each)
abbrev pub start_at : (table : List ℕ) (at : ℕ) → ℕ
start_at table at = le 8 table at

abbrev pub length_at : (table : List ℕ) (at : ℕ) → ℕ
length_at table at = le 8 table (at + 8)

abbrev pub range_at : (table : List ℕ) (at : ℕ) → Range
range_at table at = range (start_at table at) (start_at table at + length_at table at)

-- where driver k's part is told; where payload j's entry begins, and where its image's and its vendor code's parts
-- are told
abbrev pub driver_at : (k : ℕ) → ℕ
driver_at k = driver_entry_size * k

abbrev pub payload_at : (j : ℕ) → ℕ
payload_at j = payload_entry_size * j

abbrev pub image_at : (j : ℕ) → ℕ
image_at j = payload_at j + 32

abbrev pub vendor_code_at : (j : ℕ) → ℕ
vendor_code_at j = payload_at j + 48

-- the values of a payload's entry: version at 0 (32 bits), type GUID at 4, image index at 20, three bytes that are not
-- looked at, hardware instance at 24 (64 bits)
abbrev pub version_given : (table : List ℕ) (j : ℕ) → ℕ
version_given table j = le 4 table (payload_at j)

abbrev pub type_guid_given : (table : List ℕ) (j : ℕ) → List ℕ
type_guid_given table j = guid table (payload_at j + 4)

abbrev pub image_index_given : (table : List ℕ) (j : ℕ) → ℕ
image_index_given table j = get_or table (payload_at j + 20) 0

abbrev pub instance_given : (table : List ℕ) (j : ℕ) → ℕ
instance_given table j = le 8 table (payload_at j + 24)

-- the bytes of a part of a slice
abbrev pub bytes_of : (slice : List ℕ) → Range → List ℕ
bytes_of slice r = part slice r.start r.end

-- C26: payload j of a table, and all that is to be packed
abbrev pub payload_given : (image_slice vendor_code_slice table : List ℕ) (j : ℕ) → PayloadContents
payload_given image_slice vendor_code_slice table j =
    record {
      version = version_given table j;
      type_guid = type_guid_given table j;
      image_index = image_index_given table j;
      hardware_instance = instance_given table j;
      image = bytes_of image_slice (range_at table (image_at j));
      vendor_code = bytes_of vendor_code_slice (range_at table (vendor_code_at j));
    }

abbrev pub contents_of : Lent → Contents
contents_of x =
    record {
      flags = x.flags;
      drivers = drivers_in x.driver_table;
      driver = λ k. bytes_of x.driver_slice (range_at x.driver_table (driver_at k));
      payloads = payloads_in x.payload_table;
      payload = payload_given x.image_slice x.vendor_code_slice x.payload_table;
    }
