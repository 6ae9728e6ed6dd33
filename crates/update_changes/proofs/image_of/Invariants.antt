-- `image_of` meets its contract. The loop's invariant: no image below i has the type GUID. Assumes nothing.
use mathlib.Core.Path.{◌≡◌}
use mathlib.Core.List.{List}
use mathlib.Core.Bool.{Bool}
use Prim.Native.Nat.{ℕ}
use Rattle.record_layout.specs.Every.{least}
use Rattle.record_layout.specs.Layout.{type_guid}
use Rattle.fields.specs.Guid.{same}
use Rattle.update_changes.proofs.image_of.Given as goal

abbrev pub test : (r g : List ℕ) → ℕ → Bool
test r g i = same (type_guid r i) g

abbrev pub invariant-loop-i : goal.invariant-loop-i
invariant-loop-i l = least l.i (test l.r l.guid) ≡ l.i
