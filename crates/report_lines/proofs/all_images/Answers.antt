-- `all_images` meets its contract. The loop's invariant: the lines of the images below i are written. Assumes nothing.
use mathlib.Core.Path.{refl, ◌∙◌}
use native.Mathlib.Omega.{arith}
use Rattle.record_layout.proofs.Sound.{sound_long}
use Rattle.report_lines.proofs.Rows.{rows_none, rows_room, rows_more, rows_all}
use Rattle.report_lines.proofs.all_images.Goals as goal

pub image_count-i-end-requires : goal.image_count-i-end-requires
image_count-i-end-requires c = sound_long c.args.r.now c.requires.0

pub loop-i-init : goal.loop-i-init
loop-i-init c = (refl, rows_none c.image_count-i-end.ensures c.requires.1)

pub image_lines-requires : goal.image_lines-requires
image_lines-requires c =
    let t = c.loop-i-test.true in
    (c.requires.0, omega (arith, c.loop-i.invariant.1.limit, t), rows_room c.loop-i.invariant.1 c.requires.1 t)

pub loop-i-preserved : goal.loop-i-preserved
loop-i-preserved c =
    let e = c.image_lines.ensures in
    (e.same_reference ∙ c.loop-i.invariant.0, rows_more c.loop-i.invariant.1 c.requires.1 c.loop-i-test.true e.wrote)

pub returns-clause-wrote : goal.returns-clause-wrote
returns-clause-wrote c = rows_all c.loop-i.invariant.1 c.loop-i-test.false
