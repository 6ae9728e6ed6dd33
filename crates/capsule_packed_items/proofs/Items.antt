-- What the packer's tests have shown of one item: a driver, or a payload. Assumes nothing.
use mathlib.Core.Path.{◌≡◌}
use mathlib.Core.Bool.{true}
use Prim.Native.Nat.{ℕ, ◌-◌, ◌≤◌, ◌<◌}
use native.Mathlib.Omega.{arith}
use borrow.Author.Tests.{lt-ltb, le-ltb}
use Rattle.fields.proofs.Tests.{both}
use Rattle.capsule_body.specs.Body.{all}
use Rattle.capsule_body.proofs.Body.{all_at}
use Rattle.capsule_contents.specs.Contents.{item_bytes, payload_bytes}
use Rattle.capsule_contents.specs.Lent.{Lent, contents_of, drivers_in, payloads_in, range_at, length_at, driver_at, bytes_of}
use Rattle.capsule_contents.specs.Sizes.{payload_size, item_size}
use Rattle.capsule_packing_rules.specs.Rules.{inside, driver_inside, payload_inside, parts_inside}
use Rattle.capsule_packed_items.specs.Step.{PayloadReady, ItemReady}

module _ (x : Lent) (k : ℕ) where
  -- where it is a driver
  module _ (low : k < drivers_in x.driver_table) where
    pub driver_bytes : item_bytes (contents_of x) k ≡ bytes_of x.driver_slice (range_at x.driver_table (driver_at k))
    unfolding item_bytes
    driver_bytes = rw (lt-ltb k (drivers_in x.driver_table) low)

    pub driver_size : item_size x.driver_table x.payload_table k ≡ length_at x.driver_table (driver_at k)
    unfolding item_size
    driver_size = rw (lt-ltb k (drivers_in x.driver_table) low)

    pub driver_within : parts_inside x ≡ true → inside x.driver_slice (range_at x.driver_table (driver_at k)) ≡ true
    driver_within e =
        let n = drivers_in x.driver_table in
        let test = driver_inside x.driver_slice x.driver_table in
        let t = x.payload_table in
        let b = both (all test n) (all (payload_inside x.image_slice x.vendor_code_slice t) (payloads_in t)) e in
        all_at test n k b.0 low

  -- where it is a payload
  module _ (high : drivers_in x.driver_table ≤ k) where
    pub payload_bytes_lem : item_bytes (contents_of x) k ≡ payload_bytes ((contents_of x).payload (k - drivers_in x.driver_table))
    unfolding item_bytes
    payload_bytes_lem = rw (le-ltb k (drivers_in x.driver_table) high)

    payload_size_lem : item_size x.driver_table x.payload_table k ≡ payload_size x.payload_table (k - drivers_in x.driver_table)
    unfolding item_size
    payload_size_lem = rw (le-ltb k (drivers_in x.driver_table) high)

    pub payload_ready : {at room : ℕ} → ItemReady x k at room → PayloadReady x (k - drivers_in x.driver_table) at room
    payload_ready ok =
        let n = payloads_in x.payload_table in
        let test = payload_inside x.image_slice x.vendor_code_slice x.payload_table in
        let b = both (all (driver_inside x.driver_slice x.driver_table) (drivers_in x.driver_table)) (all test n) ok.parts in
        let low : k - drivers_in x.driver_table < n = omega (arith, ok.named) in
        record {
          named = low;
          parts = all_at test n (k - drivers_in x.driver_table) b.1 low;
          small = omega (arith, payload_size_lem, ok.small);
          fits = omega (arith, payload_size_lem, ok.fits);
        }
