-- `item` meets its contract: an item lies in the capsule. Assumes nothing.
use Rattle.capsule_items.proofs.Items.{item_lies}
use Rattle.capsule_items.proofs.item.Goals as goal

pub part_of-requires : goal.part_of-requires
part_of-requires c =
    let a = c.args in
    let l = rw (← c.item_span-p.ensures) at (item_lies a.s.now a.k) in
    (l.ordered, l.inside)
