-- `crc` meets its contract. The loop's invariant: the new record's bytes from word k on, taken into the register at
-- hand, give what all from word 1 on give. Assumes nothing.
use mathlib.Core.Path.{◌≡◌}
use Prim.Native.Nat.{◌*◌}
use lib.ListN.{drop}
use Rattle.record_crc.specs.Crc.{with_bytes, all_ones}
use Rattle.record_alterations.specs.Altered.{altered_by}
use Rattle.record_alterations.proofs.Altered.crc.Given as goal

abbrev pub invariant-loop-k : goal.invariant-loop-k
invariant-loop-k l =
    with_bytes all_ones (drop 4 (altered_by l.self.x l.self.r.now)) ≡ with_bytes l.q (drop (4 * l.k) (altered_by l.self.x l.self.r.now))
