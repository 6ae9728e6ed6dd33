-- Laws of a payload's header and of what fits in its item. Assumes nothing.
use mathlib.Core.Path.{◌≡◌, refl}
use mathlib.Core.Bool.{Bool, true, false, cond, and-false}
use mathlib.Core.List.{List}
use Prim.Native.Nat.{ℕ, ◌+◌, ◌<◌, ◌≤◌}
use native.Mathlib.Omega.{arith}
use borrow.Author.Tests.{leb-true, lt-leb, ne_eqb}
use lib.Dec.{leb, eqb}
use lib.ListN.{length, get_or}
use Rattle.fields.specs.Number.{le}
use Rattle.fields.specs.Guid.{guid}
use Rattle.fields.proofs.Tests.{both}
use Rattle.capsule_payloads.specs.Payload.{version, type_guid, image_index, image_size, vendor_code_size}
use Rattle.capsule_payloads.specs.Payload.{version_right, header_length, payload_right, vendor_code_end}

-- a payload header is 32 or 40 bytes long
pub header_ends : (v : ℕ) → (32 ≤ header_length v) × (header_length v ≤ 40)
unfolding header_length
header_ends v = go (eqb v 1)
  where
    go : (t : Bool) → (32 ≤ cond t 32 40) × (cond t 32 40 ≤ 40)
    go true = (omega arith, omega arith)
    go false = (omega arith, omega arith)

longer : (v : ℕ) → (v ≡ 1 → ⊥) → header_length v ≡ 40
unfolding header_length
longer v ne = rw (ne_eqb v 1 ne)

module _ (p : List ℕ) where
  -- an item that cannot hold the shorter header is at fault
  pub short_fails : length p < 32 → payload_right p ≡ false
  unfolding payload_right
  short_fails h =
      simp
      (lt-leb (vendor_code_end p) (length p) (omega (arith, header_ends (version p))), and-false)

  -- header, image and vendor code of a right payload lie in its item
  pub payload_fits : payload_right p ≡ true → vendor_code_end p ≤ length p
  unfolding payload_right
  payload_fits e =
      leb-true (vendor_code_end p) (length p) (both (version_right (version p)) (leb (vendor_code_end p) (length p)) e).1

  -- so it has 32 bytes of header
  pub first_header : payload_right p ≡ true → 32 ≤ length p
  first_header e = omega (arith, payload_fits e, (header_ends (version p)).0)

  -- a right payload whose version is not 1 has 40 bytes of header
  pub second_header : payload_right p ≡ true → (version p ≡ 1 → ⊥) → 40 ≤ length p
  second_header e ne = omega (arith, payload_fits e, longer (version p) ne)

  -- the fields, by the numbers that the code reads
  pub version_read : version p ≡ le 4 p 0
  unfolding version
  version_read = refl

  pub image_size_read : image_size p ≡ le 4 p 24
  unfolding image_size
  image_size_read = refl

  pub vendor_code_size_read : vendor_code_size p ≡ le 4 p 28
  unfolding vendor_code_size
  vendor_code_size_read = refl

  pub read_fits : payload_right p ≡ true → header_length (le 4 p 0) + le 4 p 24 + le 4 p 28 ≤ length p
  unfolding version image_size vendor_code_size
  read_fits e = payload_fits e

  pub second_read : payload_right p ≡ true → (le 4 p 0 ≡ 1 → ⊥) → 40 ≤ length p
  unfolding version
  second_read e ne = second_header e ne

  pub type_guid_read : type_guid p ≡ guid p 4
  unfolding type_guid
  type_guid_read = refl

  pub image_index_read : image_index p ≡ get_or p 20 0
  unfolding image_index
  image_index_read = refl

-- its fields
pub ruleset fields_read = (version_read, type_guid_read, image_index_read, image_size_read, vendor_code_size_read)

-- what a right payload's header tells
pub ruleset told = (first_header, second_read, read_fits, fields_read)
