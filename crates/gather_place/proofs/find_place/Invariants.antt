-- `find_place` meets its contract. The loop's invariant: no start below the offset p is free. Assumes nothing.
use mathlib.Core.Path.{◌≡◌}
use mathlib.Core.Bool.{false}
use Prim.Native.Nat.{ℕ, ◌+◌, ◌-◌, ◌≤◌, ◌<◌}
use lib.ListN.{length}
use Rattle.gather_place.specs.Place.{free}
use Rattle.gather_place.proofs.find_place.Given as goal

abbrev pub invariant-loop-p : goal.invariant-loop-p
invariant-loop-p l = (l.p ≤ length l.w) × ((q : ℕ) → q < l.p → free l.w l.base l.t l.descriptors (l.base + q) ≡ false)

abbrev pub decreases-loop-p : goal.decreases-loop-p
decreases-loop-p l = length l.w - l.p
