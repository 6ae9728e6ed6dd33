-- What the packer packs is good: every test that passed, said of the contents. Assumes nothing.
use mathlib.Core.Path.{◌≡◌}
use mathlib.Core.Bool.{Bool, true, false, not, ◌&&◌, ◌||◌}
use mathlib.Core.List.{List}
use Prim.Native.Nat.{ℕ, ◌+◌, ◌<◌}
use native.Mathlib.Omega.{arith}
use borrow.Author.Tests.{ltb-false, leb-true, eqb-true, eqb-false, not-false, not-true}
use lib.Dec.{eqb}
use lib.ListN.{length}
use Rattle.fields.specs.Part.{part}
use Rattle.fields.proofs.Tests.{both, no_true, positive}
use Rattle.fields.proofs.Bytes.{le_small}
use Rattle.fields.proofs.Guid.{guid_whole}
use Rattle.fields.proofs.Part.{part_length}
use Rattle.refusal_order.specs.Decide.{passed, decide}
use Rattle.refusal_order.proofs.Decide.{no_fault}
use Rattle.capsule_header.specs.Header.{flags_right}
use Rattle.capsule_body.specs.Body.{all, item_limit}
use Rattle.capsule_body.proofs.Body.{all_at}
use Rattle.capsule_contents.specs.Contents.{items_of, size_limit}
use Rattle.capsule_contents.specs.Lent.{Lent, contents_of, drivers_in, payloads_in, start_at, length_at, driver_at, payload_at}
use Rattle.capsule_contents.specs.Lent.{version_given, instance_given}
use Rattle.capsule_packing_rules.specs.Rules.{driver_inside, payload_inside, driver_filled, version_at_right, instance_right}
use Rattle.capsule_packing_rules.specs.Rules.{capsule_size, contents_tests, size_tests}
use Rattle.capsule_packer.specs.Packer.{packer_tests}
use Rattle.proof_packing.specs.RoundTrip.{Typed}
use Rattle.proof_packing.proofs.Good.{GoodPayload, Good}

-- the second of two tests, where the first does not hold
other : (t u : Bool) → (not t || u) ≡ true → t ≡ true → u ≡ true
other true u e q = e
other false u e q = absurd (no_true q)

-- a driver whose part lies in its slice and is told a length is as long
driver_filled_lem : (slice table : List ℕ) (k : ℕ) → driver_inside slice table k ≡ true → driver_filled table k ≡ true
    → 0 < length (part slice (start_at table (driver_at k)) (start_at table (driver_at k) + length_at table (driver_at k)))
driver_filled_lem slice table k inside filled =
    let a = start_at table (driver_at k) in
    let l = length_at table (driver_at k) in
    let some = positive l (eqb-false l 0 (not-true (eqb l 0) filled)) in
    omega (arith, part_length slice a (a + l) (leb-true (a + l) (length slice) inside))

payload_good : (x : Lent) (j : ℕ) → Typed x → j < payloads_in x.payload_table → version_at_right x.payload_table j ≡ true
    → instance_right x.payload_table j ≡ true → GoodPayload ((contents_of x).payload j)
payload_good x j typed h version instance =
    let t = x.payload_table in
    record {
      whole = guid_whole t (payload_at j + 4) (omega arith);
      version = version;
      wide = le_small 8 t (payload_at j + 24) typed.payload_table;
      none = λ one. eqb-true (instance_given t j) 0 (other (eqb (version_given t j) 1) (eqb (instance_given t j) 0) instance one);
    }

pub packed_good : (x : Lent) (room : ℕ) → Typed x → passed ≡ decide (packer_tests x room) → Good (contents_of x)
unfolding packer_tests size_tests contents_tests
packed_good x room typed e =
    let t = no_fault (packer_tests x room) e in
    let dt = x.driver_table in
    let pt = x.payload_table in
    let d = drivers_in dt in
    let p = payloads_in pt in
    let inside =
    not-false (all (driver_inside x.driver_slice dt) d && all (payload_inside x.image_slice x.vendor_code_slice pt) p) t.1.0 in
    let lies = (both (all (driver_inside x.driver_slice dt) d) _ inside).0 in
    let lie = all_at (driver_inside x.driver_slice dt) d in
    let filled = not-false (all (driver_filled dt) d) t.1.1.0 in
    let versions = not-false (all (version_at_right pt) p) t.1.1.1.0 in
    let instances = not-false (all (instance_right pt) p) t.1.1.1.1.0 in
    record {
      few = ltb-false item_limit (items_of (contents_of x)) t.0;
      flags = typed.flags;
      persists = not-false (flags_right x.flags) t.1.1.1.1.1.0;
      small = omega (arith, ltb-false size_limit (capsule_size x) t.1.1.1.1.1.1.0);
      filled = λ k h. driver_filled_lem x.driver_slice dt k (lie k lies h) (all_at (driver_filled dt) d k filled h);
      payload = λ j h. payload_good x j typed h (all_at (version_at_right pt) p j versions h) (all_at (instance_right pt) p j instances h);
    }
