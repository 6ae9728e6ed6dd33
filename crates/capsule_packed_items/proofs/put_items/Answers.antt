-- `put_items` meets its contract. The loop's invariant: the items below k are put, and `at` is where item k starts.
-- Assumes nothing.
use Prim.Native.Nat.{◌+◌, ◌*◌, ◌≤◌}
use native.Mathlib.Numerals.{add-one}
use native.Mathlib.Omega.{arith}
use lib.ListN.{length}
use Rattle.capsule_contents.specs.Contents.{item_bytes}
use Rattle.capsule_contents.specs.Given.{given}
use Rattle.capsule_contents.specs.Lent.{contents_of}
use Rattle.capsule_contents.specs.Sizes.{sum}
use Rattle.capsule_contents.proofs.Caps.{sum_more, sum_each}
use Rattle.capsule_packed_items.proofs.Puts.{joined_none, joined_next}
use Rattle.capsule_packed_items.proofs.Offsets.{uncapped}
use Rattle.capsule_packed_items.proofs.Packing.{size_in, whole_size, sum_low, item_long, item_small, item_fits, items_long}
use Rattle.capsule_packed_items.proofs.put_items.Goals as goal

pub loop-k-init : goal.loop-k-init
unfolding sum
loop-k-init c =
    (omega arith, joined_none c.args.out.now (36 + 8 * c.items-items.result) (item_bytes (contents_of (given c.args.lending.now))))

pub put_item-requires : goal.put_item-requires
put_item-requires c =
    let x = given c.args.lending.now in
    let n = c.items-items.result in
    let room = length c.args.out.now in
    let low = c.loop-k-test.true in
    record {
      named = omega (arith, c.items-items.ensures, low);
      parts = c.requires.parts;
      small = item_small x n room c.items-items.ensures c.requires c.loop-k.k low;
      fits = omega (arith, c.loop-k.auto.out, c.loop-k.invariant.0, item_fits x n room c.items-items.ensures c.requires c.loop-k.k low);
    }

pub overflow_add-at-in-loop-k : goal.overflow_add-at-in-loop-k
overflow_add-at-in-loop-k c =
    let x = given c.args.lending.now in
    let n = c.items-items.result in
    let room = length c.args.out.now in
    let k = c.loop-k.k in
    let sum_small = sum_low x n room c.items-items.ensures c.requires in
    let added = uncapped n k _ (size_in x) c.loop-k-test.true sum_small c.item_size-at.ensures in
    omega (
      arith,
      added,
      c.loop-k.invariant.0,
      c.requires.small,
      whole_size x n room c.items-items.ensures c.requires,
      sum_each n k (size_in x) c.loop-k-test.true,
    )

pub loop-k-preserved : goal.loop-k-preserved
loop-k-preserved c =
    let x = given c.args.lending.now in
    let n = c.items-items.result in
    let e = c.items-items.ensures in
    let out = c.args.out.now in
    let room = length out in
    let k = c.loop-k.k in
    let g = item_bytes (contents_of x) in
    let low = c.loop-k-test.true in
    let added = uncapped n k _ (size_in x) low (sum_low x n room e c.requires) c.item_size-at.ensures in
    let fits : 36 + 8 * n + sum k (size_in x) + length (g k) ≤ room =
    omega (arith, item_long x n room e c.requires k low, item_fits x n room e c.requires k low) in (
      rw (add-one k, sum_more k (size_in x)) (omega (arith, added, c.loop-k.invariant.0)),
      joined_next out (36 + 8 * n) g k (sum k (size_in x)) (items_long x n room e c.requires k (omega (arith, low))) fits
          c.loop-k.invariant.1 (rw c.loop-k.invariant.0 at c.put_item.ensures),
    )
