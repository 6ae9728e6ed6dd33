-- `drivers_filled` meets its contract: the test holds of every one. Assumes nothing.
use Rattle.std.proofs.Common.{rules, tests, arith}
use Rattle.capsule_body.proofs.Ranged.{all_from_Range}
use Rattle.capsule_contents.specs.Lent.{drivers_in}
use Rattle.capsule_packing_rules.specs.Rules.{driver_filled}
use Rattle.capsule_packing_rules.proofs.drivers_filled.Goals as goal

pub returns : goal.returns
returns c =
    let x = c.args.lending.now in
    all_from_Range (driver_filled x.driver_table.now) (drivers_in x.driver_table.now)
    c.all.ensures.ran (omega arith) (λ x t q k. search (rules, tests))
