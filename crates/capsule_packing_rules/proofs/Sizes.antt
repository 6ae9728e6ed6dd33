-- How long the items and the capsule are where every part lies in its slice: as the tables tell it. Assumes nothing.
use mathlib.Core.Path.{◌≡◌, refl, ◌∙◌}
use mathlib.Core.Bool.{Bool, true, false, cond}
use mathlib.Core.List.{List}
use Prim.Native.Nat.{ℕ, ◌+◌, ◌-◌, ◌*◌, ◌<◌}
use native.Mathlib.Omega.{arith}
use borrow.Author.Tests.{leb-true, ltb-true, ltb-false}
use lib.Dec.{ltb}
use lib.ListN.{length}
use Rattle.fields.proofs.Tests.{both}
use Rattle.fields.proofs.Guid.{guid_whole}
use Rattle.fields.proofs.Part.{part_length}
use Rattle.capsule_body.specs.Body.{all}
use Rattle.capsule_body.proofs.Body.{all_at}
use Rattle.capsule_contents.specs.Contents.{items_of, item_bytes, payload_bytes}
use Rattle.capsule_contents.specs.Lent.{Lent, contents_of, drivers_in, payloads_in, range_at, length_at, bytes_of}
use Rattle.capsule_contents.specs.Lent.{driver_at, payload_at, image_at, vendor_code_at, payload_given}
use Rattle.capsule_contents.specs.Sizes.{payload_size, item_size, sum}
use Rattle.capsule_contents.proofs.Lengths.{joined_sum, payload_length, body_length, capsule_length}
use Rattle.capsule_packing_rules.specs.Rules.{inside, driver_inside, payload_inside, parts_inside, capsule_size}

-- a part that lies in its slice is as long as it is told
pub told_length : (slice table : List ℕ) (at : ℕ) → inside slice (range_at table at) ≡ true
    → length (bytes_of slice (range_at table at)) ≡ length_at table at
told_length slice table at e =
    let r = range_at table at in
    part_length slice r.start r.end (leb-true r.end (length slice) e) ∙ omega arith

module _ (x : Lent) (within : parts_inside x ≡ true) where
  sides : (all (driver_inside x.driver_slice x.driver_table) (drivers_in x.driver_table) ≡ true)
      × (all (payload_inside x.image_slice x.vendor_code_slice x.payload_table) (payloads_in x.payload_table) ≡ true)
  sides =
      both (all (driver_inside x.driver_slice x.driver_table) (drivers_in x.driver_table))
      (all (payload_inside x.image_slice x.vendor_code_slice x.payload_table) (payloads_in x.payload_table)) within

  driver_length : (k : ℕ) → k < drivers_in x.driver_table → length ((contents_of x).driver k) ≡ length_at x.driver_table (driver_at k)
  driver_length k h =
      told_length x.driver_slice x.driver_table (driver_at k)
      (all_at (driver_inside x.driver_slice x.driver_table) (drivers_in x.driver_table) k sides.0 h)

  payload_long : (j : ℕ) → j < payloads_in x.payload_table
      → length (payload_bytes ((contents_of x).payload j)) ≡ payload_size x.payload_table j
  unfolding payload_size
  payload_long j h =
      let t = x.payload_table in
      let in_both =
      both (inside x.image_slice (range_at t (image_at j))) (inside x.vendor_code_slice (range_at t (vendor_code_at j)))
      (all_at (payload_inside x.image_slice x.vendor_code_slice t) (payloads_in t) j sides.1 h) in
      payload_length (payload_given x.image_slice x.vendor_code_slice t j) (guid_whole t (payload_at j + 4) (omega arith))
      ∙ rw (told_length x.image_slice t (image_at j) in_both.0, told_length x.vendor_code_slice t (vendor_code_at j) in_both.1)

  -- an item's length
  pub item_length : (k : ℕ) → k < items_of (contents_of x)
      → length (item_bytes (contents_of x) k) ≡ item_size x.driver_table x.payload_table k
  unfolding item_bytes item_size
  item_length k h = go (ltb k (drivers_in x.driver_table)) refl
    where
      j : ℕ
      j = k - drivers_in x.driver_table

      go : (t : Bool) → ltb k (drivers_in x.driver_table) ≡ t
          → length (cond t ((contents_of x).driver k) (payload_bytes ((contents_of x).payload j)))
          ≡ cond t (length_at x.driver_table (driver_at k)) (payload_size x.payload_table j)
      go true e = driver_length k (ltb-true k (drivers_in x.driver_table) e)
      go false e = payload_long j (omega (arith, ltb-false k (drivers_in x.driver_table) e))

  -- and the capsule's
  pub packed_size_is : capsule_size x
      ≡ 36 + 8 * items_of (contents_of x) + sum (items_of (contents_of x)) (item_size x.driver_table x.payload_table)
  packed_size_is =
      let c = contents_of x in
      omega (
        arith,
        capsule_length c,
        body_length c,
        joined_sum (items_of c) (item_bytes c) (item_size x.driver_table x.payload_table) item_length,
      )
