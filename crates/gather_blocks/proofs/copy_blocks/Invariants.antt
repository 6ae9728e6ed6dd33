-- `copy_blocks` meets its contract. The loop's invariant: the blocks of the first descriptors stand at the place.
-- Assumes nothing.
use mathlib.Core.Path.{◌≡◌}
use Prim.Native.Nat.{◌+◌}
use lib.ListN.{length, take}
use Rattle.fields.specs.Number.{put}
use Rattle.gather_blocks.specs.Blocks.{blocks}
use Rattle.gather_blocks.proofs.copy_blocks.Given as goal

abbrev pub invariant-loop-d : goal.invariant-loop-d
invariant-loop-d l =
    let done = blocks l.initial.w l.base (take l.d-index l.descriptors) in
    (l.w ≡ put l.initial.w l.p done) × (l.q ≡ l.p + length done) × (length l.w ≡ length l.initial.w)
