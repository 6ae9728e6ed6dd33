-- `write_part` meets its contract. The loop's invariant: the first i bytes are put. Assumes nothing.
use mathlib.Core.Path.{◌≡◌}
use lib.ListN.{length, drop}
use lib.Seq.{paste}
use Rattle.field_writes.proofs.write_part.Given as goal

abbrev pub invariant-loop-i : goal.invariant-loop-i
invariant-loop-i l = (l.s ≡ paste l.initial.s l.at (drop l.from l.t) l.i) × (length l.s ≡ length l.initial.s)
