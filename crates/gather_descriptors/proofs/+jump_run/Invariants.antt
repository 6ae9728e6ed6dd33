-- With l descriptors left `run` calls either at l - 1, and `jump` calls `run` at the same l: the measure is 2l for `run`
-- and 2l + 1 for `jump`. Assumes nothing.
use Prim.Native.Nat.{◌+◌, ◌*◌}
use Rattle.gather_descriptors.proofs.+jump_run.Given as goal

abbrev pub decreases-jump : goal.decreases-jump
decreases-jump l = 2 * l.left + 1

abbrev pub decreases-run : goal.decreases-run
decreases-run l = 2 * l.left
