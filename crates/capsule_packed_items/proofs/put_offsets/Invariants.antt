-- `put_offsets` meets its contract. The loop's invariant: the offsets of the items below k are put, and `offset` is
-- that of item k. Assumes nothing.
use mathlib.Core.Path.{◌≡◌}
use Rattle.fields.specs.Number.{put}
use Rattle.fields.specs.Joined.{joined}
use Rattle.capsule_packed_items.proofs.Offsets.{offset_for, offset_bytes}
use Rattle.capsule_packed_items.proofs.put_offsets.Given as goal

abbrev pub invariant-loop-k : goal.invariant-loop-k
invariant-loop-k l =
    (l.offset ≡ offset_for l.lending.driver_table.now l.lending.payload_table.now l.items l.k)
    × (l.out ≡ put l.initial.out 36 (joined l.k (offset_bytes l.lending.driver_table.now l.lending.payload_table.now l.items)))
