-- `meanderpeg_capsule_image` meets its contract: the image lies in the capsule. Assumes nothing.
use Rattle.refusal_order.specs.Decide.{reply}
use Rattle.fields.proofs.Part.{part_length}
use Rattle.capsule_parts.proofs.Parts.{image_lies}
use Rattle.c_image.proofs.meanderpeg_capsule_image.Goals as goal

pub overflow_sub-part : goal.overflow_sub-part
overflow_sub-part c = (image_lies c.args.s.now c.args.k c.in-Ok.places c.in-Ok.ensures.placed.0).0

pub returns-in-Ok : goal.returns-in-Ok
unfolding reply
returns-in-Ok c =
    let e = c.in-Ok.ensures in
    let l = image_lies c.args.s.now c.args.k c.in-Ok.places e.placed.0 in
    rw (← e.judged, ← e.placed.0, part_length c.args.s.now c.in-Ok.places.image c.in-Ok.places.code l.1)

pub returns-in-Err : goal.returns-in-Err
unfolding reply
returns-in-Err c = rw (← c.in-Err.ensures.judged, c.number.ensures)
