-- `items_size` meets its contract: the sum of the sizes passed, or the cap. Assumes nothing.
use mathlib.Core.Path.{◌∙◌, refl}
use native.Mathlib.Numerals.{add-one}
use Rattle.capsule_contents.specs.Sizes.{cap, item_size, sum}
use Rattle.capsule_contents.proofs.Caps.{cap_again, sum_more}
use Rattle.capsule_packing_rules.proofs.items_size.Goals as goal

pub loop-k-init : goal.loop-k-init
unfolding cap sum
loop-k-init c = refl

pub loop-k-preserved : goal.loop-k-preserved
loop-k-preserved c =
    let x = c.args.lending.now in
    let sizes = item_size x.driver_table.now x.payload_table.now in
    let k = c.loop-k.k in
    c.add_capped-total.ensures
    ∙ rw (c.loop-k.invariant, c.item_size.ensures, add-one, sum_more k sizes) (cap_again (sum k sizes) (sizes k))
