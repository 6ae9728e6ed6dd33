-- `meanderpeg_capsule_vendor_code` meets its contract: the vendor code lies in the capsule. Assumes nothing.
use Rattle.refusal_order.specs.Decide.{reply}
use Rattle.fields.proofs.Part.{part_length}
use Rattle.capsule_parts.proofs.Parts.{vendor_code_lies}
use Rattle.c_vendor_code.proofs.meanderpeg_capsule_vendor_code.Goals as goal

pub overflow_sub-part : goal.overflow_sub-part
overflow_sub-part c = (vendor_code_lies c.args.s.now c.args.k c.in-Ok.places c.in-Ok.ensures.placed.1).0

pub returns-in-Ok : goal.returns-in-Ok
unfolding reply
returns-in-Ok c =
    let e = c.in-Ok.ensures in
    let l = vendor_code_lies c.args.s.now c.args.k c.in-Ok.places e.placed.1 in
    rw (← e.judged, ← e.placed.1, part_length c.args.s.now c.in-Ok.places.code c.in-Ok.places.end l.1)

pub returns-in-Err : goal.returns-in-Err
unfolding reply
returns-in-Err c = rw (← c.in-Err.ensures.judged, c.number.ensures)
