-- `packed_size` meets its contract. Assumes nothing.
use mathlib.Core.Path.{◌≡◌}
use Rattle.std.proofs.Common.{rules}
use Rattle.refusal_order.specs.Decide.{passed, decide}
use Rattle.capsule_contents.specs.Given.{given}
use Rattle.capsule_packing_rules.specs.Rules.{contents_tests}
use Rattle.capsule_packing_rules.proofs.Steps.{contents_refused, size_refused, size_given}
use Rattle.capsule_packing_rules.proofs.packed_size.Goals as goal

pub returns-in_err-admit : goal.returns-in_err-admit
returns-in_err-admit c = search (rules, contents_refused)

pub returns-then-size-ge-SIZE_CAP : goal.returns-then-size-ge-SIZE_CAP
returns-then-size-ge-SIZE_CAP c =
    let x = given c.args.lending.now in
    let fine : passed ≡ decide (contents_tests x) = search rules in
    size_refused x fine _ _ _ c.add_capped-size.ensures c.items.ensures c.items_size.ensures c.if-size-ge-SIZE_CAP.true

pub returns : goal.returns
returns c =
    let x = given c.args.lending.now in
    let fine : passed ≡ decide (contents_tests x) = search rules in
    size_given x fine _ _ _ c.add_capped-size.ensures c.items.ensures c.items_size.ensures c.if-size-ge-SIZE_CAP.false
