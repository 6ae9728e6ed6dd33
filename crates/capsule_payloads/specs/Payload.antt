-- A payload (C14 to C16), p being the bytes of its whole item. Sums are whole numbers. Each number reads bytes past the
-- end of p as 0; a payload whose header does not fit is at fault whatever it reads. Assumes nothing.
use Rattle.std.specs.Prelude.{ℕ, ◌+◌, Bool, cond, ◌&&◌, ◌||◌, List, leb, eqb, length, get_or}
use Rattle.fields.specs.Number.{le}
use Rattle.fields.specs.Guid.{guid}
use Rattle.capsule_body.specs.Body.{all, drivers, payloads, item}

-- C14: the fields of the header
unfoldable pub version : List ℕ → ℕ
version p = le 4 p 0

unfoldable pub type_guid : List ℕ → List ℕ
type_guid p = guid p 4

unfoldable pub image_index : List ℕ → ℕ
image_index p = get_or p 20 0

unfoldable pub image_size : List ℕ → ℕ
image_size p = le 4 p 24

unfoldable pub vendor_code_size : List ℕ → ℕ
vendor_code_size p = le 4 p 28

-- version 1 has none and shows 0 (C21)
unfoldable pub hardware_instance : List ℕ → ℕ
hardware_instance p = cond (eqb (version p) 1) 0 (le 8 p 32)

-- 1 or 2 (C15)
unfoldable pub version_right : ℕ → Bool
version_right v = eqb v 1 || eqb v 2

-- C15; 40 for every version but 1, since only 1 and 2 pass `version_right`. Then the image and the vendor code (C16)
unfoldable pub header_length : ℕ → ℕ
header_length v = cond (eqb v 1) 32 40

abbrev pub image_start : List ℕ → ℕ
image_start p = header_length (version p)

abbrev pub image_end : List ℕ → ℕ
image_end p = image_start p + image_size p

abbrev pub vendor_code_end : List ℕ → ℕ
vendor_code_end p = image_end p + vendor_code_size p

-- C16: all fit in the item
unfoldable pub payload_right : List ℕ → Bool
payload_right p = version_right (version p) && leb (vendor_code_end p) (length p)

-- the payload j of a body b is right: the item behind all drivers and j payloads (C8)
unfoldable pub payload_at_right : List ℕ → ℕ → Bool
payload_at_right b j = payload_right (item b (drivers b + j))

-- N15 is for a body where this fails. A driver has no rule of its own
unfoldable pub payloads_right : List ℕ → Bool
payloads_right b = all (payload_at_right b) (payloads b)
