-- What a capsule is packed from, and the bytes of the capsule that is packed (C28 to C30). A number that does not fit
-- its field would be cut to it: the packer refuses before (N50 to N56). Assumes nothing.
use Rattle.std.specs.Prelude.{ℕ, ◌+◌, ◌-◌, ◌*◌, ◌^◌, cond, List, [], ◌∷◌, ◌++◌, eqb, ltb, length}
use Rattle.fields.specs.Number.{bytes}
use Rattle.fields.specs.Joined.{joined}
use Rattle.capsule_header.specs.Header.{header_least, fmp_guid}

-- a payload: what its header tells, and its two parts
pub record PayloadContents : Type 0 where
  pub version : ℕ
  pub type_guid : List ℕ
  pub image_index : ℕ
  pub hardware_instance : ℕ
  pub image : List ℕ
  pub vendor_code : List ℕ

-- flags; how many drivers, and the bytes of each by its number from 0; how many payloads, and each
pub record Contents : Type 0 where
  pub flags : ℕ
  pub drivers : ℕ
  pub driver : ℕ → List ℕ
  pub payloads : ℕ
  pub payload : ℕ → PayloadContents

-- C30: a payload's header. Three reserved bytes 0 behind the index; no hardware instance in version 1
unfoldable pub payload_header_bytes : PayloadContents → List ℕ
payload_header_bytes p =
    bytes 4 p.version
    ++ p.type_guid
    ++ (p.image_index ∷ 0 ∷ 0 ∷ 0 ∷ [])
    ++ bytes 4 (length p.image)
    ++ bytes 4 (length p.vendor_code)
    ++ cond (eqb p.version 1) [] (bytes 8 p.hardware_instance)

-- C30: the header, the image, the vendor code, and nothing else
unfoldable pub payload_bytes : PayloadContents → List ℕ
payload_bytes p = payload_header_bytes p ++ p.image ++ p.vendor_code

-- C29: the items, drivers first
abbrev pub items_of : Contents → ℕ
items_of c = c.drivers + c.payloads

unfoldable pub item_bytes : Contents → ℕ → List ℕ
item_bytes c k = cond (ltb k c.drivers) (c.driver k) (payload_bytes (c.payload (k - c.drivers)))

-- C29: the first item stands right after the list, each other one right after the one before; from the body's start
unfoldable pub offset_of : Contents → ℕ → ℕ
offset_of c k = 8 + 8 * items_of c + length (joined k (item_bytes c))

-- C29: version 1, the two counts, the offsets, the items
unfoldable pub body_bytes : Contents → List ℕ
body_bytes c =
    bytes 4 1
    ++ bytes 2 c.drivers
    ++ bytes 2 c.payloads
    ++ joined (items_of c) (λ k. bytes 8 (offset_of c k))
    ++ joined (items_of c) (item_bytes c)

-- C28: the GUID, HeaderSize 28, Flags, CapsuleImageSize
unfoldable pub header_bytes : (flags size : ℕ) → List ℕ
header_bytes flags size = fmp_guid ++ bytes 4 header_least ++ bytes 4 flags ++ bytes 4 size

-- C28: the header, and the body right behind it
unfoldable pub capsule_bytes : Contents → List ℕ
capsule_bytes c = header_bytes c.flags (header_least + length (body_bytes c)) ++ body_bytes c

-- the most that CapsuleImageSize can tell
abbrev pub size_limit : ℕ
size_limit = 2 ^ 32 - 1
