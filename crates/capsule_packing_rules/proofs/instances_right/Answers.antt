-- `instances_right` meets its contract: the test holds of every one. Assumes nothing.
use Rattle.std.proofs.Common.{rules, tests, arith}
use Rattle.capsule_body.proofs.Ranged.{all_from_Range}
use Rattle.capsule_contents.specs.Lent.{payloads_in}
use Rattle.capsule_packing_rules.specs.Rules.{instance_right}
use Rattle.capsule_packing_rules.proofs.instances_right.Goals as goal

pub returns : goal.returns
returns c =
    let x = c.args.lending.now in
    all_from_Range (instance_right x.payload_table.now) (payloads_in x.payload_table.now)
    c.all.ensures.ran (omega arith) (λ x t q k. search (rules, tests))
