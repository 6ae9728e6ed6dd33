-- `put_offsets` meets its contract. The loop's invariant: the offsets of the items below k are put, and `offset` is
-- that of item k. Assumes nothing.
use Prim.Native.Nat.{◌+◌, ◌*◌, ◌≤◌}
use mathlib.Core.Path.{◌≡◌}
use native.Mathlib.Numerals.{add-one}
use native.Mathlib.Omega.{arith}
use lib.ListN.{length}
use Rattle.fields.proofs.Number.{length_bytes}
use Rattle.capsule_contents.specs.Given.{given}
use Rattle.capsule_contents.specs.Sizes.{item_size, sum}
use Rattle.capsule_contents.proofs.Caps.{sum_more, sum_each}
use Rattle.capsule_packed_items.specs.Step.{offsets_bytes}
use Rattle.capsule_packed_items.proofs.Puts.{joined_none, joined_next}
use Rattle.capsule_packed_items.proofs.Offsets.{offset_for, offset_bytes, offsets_long, uncapped}
use Rattle.capsule_packed_items.proofs.Packing.{size_in, list_fits, sum_low}
use Rattle.capsule_packed_items.proofs.put_offsets.Goals as goal

pub loop-k-init : goal.loop-k-init
unfolding sum
loop-k-init c =
    let x = c.args.lending.now in
    (omega arith, joined_none c.args.out.now 36 (offset_bytes x.driver_table.now x.payload_table.now c.items-items.result))

pub write64-requires : goal.write64-requires
write64-requires c =
    let room = length c.args.out.now in
    omega (arith, c.loop-k-test.true, c.loop-k.auto.out, list_fits (given c.args.lending.now) _ room c.items-items.ensures c.requires)

pub overflow_add-offset-in-loop-k : goal.overflow_add-offset-in-loop-k
overflow_add-offset-in-loop-k c =
    let x = given c.args.lending.now in
    let n = c.items-items.result in
    let low = sum_low x n (length c.args.out.now) c.items-items.ensures c.requires in
    let added = uncapped n c.loop-k.k _ (size_in x) c.loop-k-test.true low c.item_size-offset.ensures in
    let part = sum_each n c.loop-k.k (size_in x) c.loop-k-test.true in
    omega (arith, added, part, low, c.items-items.ensures, c.requires.few, c.loop-k.invariant.0)

pub loop-k-preserved : goal.loop-k-preserved
loop-k-preserved c =
    let x = given c.args.lending.now in
    let n = c.items-items.result in
    let out = c.args.out.now in
    let d = x.driver_table in
    let p = x.payload_table in
    let k = c.loop-k.k in
    let low = sum_low x n (length out) c.items-items.ensures c.requires in
    let added = uncapped n k _ (size_in x) c.loop-k-test.true low c.item_size-offset.ensures in
    let eight = length_bytes 8 (offset_for d p n k) in
    let fits = list_fits x n (length out) c.items-items.ensures c.requires in
    let room : 36 + 8 * k + length (offset_bytes d p n k) ≤ length out = omega (arith, fits, eight, c.loop-k-test.true) in (
      rw (add-one k, sum_more k (item_size d p)) (omega (arith, added, c.loop-k.invariant.0)),
      joined_next out 36 (offset_bytes d p n) k (8 * k) (offsets_long d p n k) room c.loop-k.invariant.1
          (rw c.loop-k.invariant.0 at c.write64.ensures),
    )

pub returns : goal.returns
unfolding offsets_bytes
returns c =
    let z : c.loop-k.k ≡ c.items-items.result = omega (arith, c.loop-k-test.false, c.loop-k.auto.k-end) in
    rw (← c.items-items.ensures) (rw z at c.loop-k.invariant.1)
