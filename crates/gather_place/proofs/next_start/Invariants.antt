-- `next_start` meets its contract. The loop's invariant: the start is clear of every descriptor passed and of its
-- block. Assumes nothing.
use mathlib.Core.Path.{◌≡◌}
use mathlib.Core.Bool.{true}
use Prim.Native.Nat.{ℕ, ◌+◌, ◌<◌}
use lib.ListN.{get_or}
use Rattle.gather_place.specs.Place.{clear_of}
use Rattle.gather_place.proofs.next_start.Given as goal

abbrev pub invariant-loop-d : goal.invariant-loop-d
invariant-loop-d l = (k : ℕ) → k < l.d-index → clear_of l.w l.base l.t (l.base + l.p) (get_or l.descriptors k 0) ≡ true
