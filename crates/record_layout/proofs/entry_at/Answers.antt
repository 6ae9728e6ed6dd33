-- `entry_at` meets its contract: as many entries as the image limit, each as long as the bank limit makes it, at most.
-- Assumes nothing.
use Prim.Native.Nat.{◌*◌, ◌≤◌}
use native.Mathlib.Omega.{arith}
use Rattle.record_layout.specs.Layout.{bank_limit, image_limit, entry_size}
use Rattle.record_layout.proofs.Sizes.{at_most}
use Rattle.record_layout.proofs.entry_at.Goals as goal
use Rattle.record_layout.proofs.entry_at.Goals.{After-entry_size}

product : (c : After-entry_size) → c.args.i * c.entry_size.result ≤ image_limit * entry_size bank_limit
product c =
    rw c.entry_size.ensures
    (at_most c.args.i (entry_size c.args.banks) image_limit (entry_size bank_limit) c.requires.1 (omega (arith, c.requires.0)))

pub overflow_mul-result : goal.overflow_mul-result
overflow_mul-result c = omega (arith, product (goal.at.overflow_mul-result c).After-entry_size)

pub overflow_add-result : goal.overflow_add-result
overflow_add-result c = omega (arith, product (goal.at.overflow_add-result c).After-entry_size)

pub returns : goal.returns
returns c = (rw c.entry_size.ensures, omega (arith, product (goal.at.returns c).After-entry_size))
