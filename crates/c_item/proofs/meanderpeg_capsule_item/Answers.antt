-- `meanderpeg_capsule_item` meets its contract: an item lies in the capsule, and carries the verdict. Assumes nothing.
use mathlib.Core.Path.{sym, ap, ◌∙◌}
use Rattle.std.specs.Prelude.{Ok}
use Rattle.refusal_order.specs.Decide.{reply}
use Rattle.capsule_check.proofs.Places.{judged_refused}
use Rattle.capsule_items.proofs.Items.{driver_told, payload_told}
use Rattle.c_item.proofs.meanderpeg_capsule_item.Goals as goal

pub set_part-requires : goal.set_part-requires
set_part-requires c =
    let i = c.in-Ok-Driver in
    (driver_told c.args.s.now c.args.k i.start i.end (sym c.locate.ensures ∙ i.is ∙ ap Ok i.field-0-is)).0

pub set_part-requires-in-Ok-Payload : goal.set_part-requires-in-Ok-Payload
set_part-requires-in-Ok-Payload c =
    let i = c.in-Ok-Payload in
    (payload_told c.args.s.now c.args.k i.start i.end (sym c.locate.ensures ∙ i.is ∙ ap Ok i.field-0-is)).0

pub returns-in-Err : goal.returns-in-Err
unfolding reply
returns-in-Err c =
    let a = c.args in
    rw (judged_refused a.s.now a.k c.in-Err.why (sym c.locate.ensures ∙ c.in-Err.is), c.number.ensures)
