-- The packer's refusals 50 to 56, each by its test, and the size of the capsule (N50 to N56, C31). Sums are whole
-- numbers. Assumes nothing.
use Rattle.std.specs.Prelude.{ℕ, Bool, not, ◌&&◌, ◌||◌, List, [], ◌∷◌, ◌++◌, leb, ltb, eqb, length}
use Rattle.fields.specs.Part.{Range}
use Rattle.refusals.specs.declared.Refusal.TheVariants.{PackItems, PackPart, PackEmptyDriver, PackVersion}
use Rattle.refusals.specs.declared.Refusal.TheVariants.{PackInstance, PackFlags, PackSize}
use Rattle.refusal_order.specs.Decide.{Test, decide, Reply, reply}
use Rattle.capsule_header.specs.Header.{flags_right}
use Rattle.capsule_body.specs.Body.{all, item_limit}
use Rattle.capsule_payloads.specs.Payload.{version_right}
use Rattle.capsule_contents.specs.Contents.{items_of, capsule_bytes, size_limit}
use Rattle.capsule_contents.specs.Lent.{Lent, contents_of, drivers_in, payloads_in, range_at, length_at}
use Rattle.capsule_contents.specs.Lent.{driver_at, image_at, vendor_code_at, version_given, instance_given}

-- a part lies in its slice. An empty one may stand at the slice's end, and none behind it
abbrev pub inside : (slice : List ℕ) → Range → Bool
inside slice r = leb r.end (length slice)

abbrev pub driver_inside : (driver_slice table : List ℕ) → ℕ → Bool
driver_inside driver_slice table k = inside driver_slice (range_at table (driver_at k))

abbrev pub payload_inside : (image_slice vendor_code_slice table : List ℕ) → ℕ → Bool
payload_inside image_slice vendor_code_slice table j =
    inside image_slice (range_at table (image_at j)) && inside vendor_code_slice (range_at table (vendor_code_at j))

abbrev pub parts_inside : Lent → Bool
parts_inside x =
    all (driver_inside x.driver_slice x.driver_table) (drivers_in x.driver_table)
    && all (payload_inside x.image_slice x.vendor_code_slice x.payload_table) (payloads_in x.payload_table)

-- a driver has at least a byte
abbrev pub driver_filled : (table : List ℕ) → ℕ → Bool
driver_filled table k = not (eqb (length_at table (driver_at k)) 0)

-- C15, by the reader's own rule
abbrev pub version_at_right : (table : List ℕ) → ℕ → Bool
version_at_right table j = version_right (version_given table j)

-- version 1 has no place for a hardware instance, and shows 0
abbrev pub instance_right : (table : List ℕ) → ℕ → Bool
instance_right table j = not (eqb (version_given table j) 1) || eqb (instance_given table j) 0

-- C31: as many bytes as the capsule has
abbrev pub capsule_size : Lent → ℕ
capsule_size x = length (capsule_bytes (contents_of x))

-- 50 to 55, by number. 55 is for the flags that a reader refuses by 12: the same rule, C4
unfoldable pub contents_tests : Lent → List Test
contents_tests x =
    (ltb item_limit (items_of (contents_of x)), PackItems)
    ∷ (not (parts_inside x), PackPart)
    ∷ (not (all (driver_filled x.driver_table) (drivers_in x.driver_table)), PackEmptyDriver)
    ∷ (not (all (version_at_right x.payload_table) (payloads_in x.payload_table)), PackVersion)
    ∷ (not (all (instance_right x.payload_table) (payloads_in x.payload_table)), PackInstance)
    ∷ (not (flags_right x.flags), PackFlags)
    ∷ []

-- and 56
unfoldable pub size_tests : Lent → List Test
size_tests x = contents_tests x ++ ((ltb size_limit (capsule_size x), PackSize) ∷ [])

-- the size of the capsule that would be packed, or the refusal
unfoldable pub sized : Lent → Reply ℕ
sized x = reply (decide (size_tests x)) (capsule_size x)
