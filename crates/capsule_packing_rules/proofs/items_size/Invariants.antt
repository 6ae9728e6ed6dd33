-- `items_size` meets its contract: the sum of the sizes passed, or the cap. Assumes nothing.
use mathlib.Core.Path.{◌≡◌}
use Rattle.capsule_contents.specs.Sizes.{cap, item_size, sum}
use Rattle.capsule_packing_rules.proofs.items_size.Given as goal

abbrev pub invariant-loop-k : goal.invariant-loop-k
invariant-loop-k l = l.total ≡ cap (sum l.k (item_size l.lending.driver_table.now l.lending.payload_table.now))
