-- `put_items` meets its contract. The loop's invariant: the items below k are put, and `at` is where item k starts.
-- Assumes nothing.
use Prim.Native.Nat.{◌+◌, ◌*◌}
use mathlib.Core.Path.{◌≡◌}
use Rattle.fields.specs.Number.{put}
use Rattle.fields.specs.Joined.{joined}
use Rattle.capsule_contents.specs.Contents.{item_bytes}
use Rattle.capsule_contents.specs.Given.{given}
use Rattle.capsule_contents.specs.Lent.{contents_of}
use Rattle.capsule_contents.specs.Sizes.{sum}
use Rattle.capsule_packed_items.proofs.Packing.{size_in}
use Rattle.capsule_packed_items.proofs.put_items.Given as goal

abbrev pub invariant-loop-k : goal.invariant-loop-k
invariant-loop-k l =
    (l.at ≡ 36 + 8 * l.items + sum l.k (size_in (given l.lending)))
    × (l.out ≡ put l.initial.out (36 + 8 * l.items) (joined l.k (item_bytes (contents_of (given l.lending)))))
