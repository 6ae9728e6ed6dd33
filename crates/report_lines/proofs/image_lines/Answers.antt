-- `image_lines` meets its contract. The loop's invariant: the image's lines in the banks below b are written. Assumes
-- nothing.
use mathlib.Core.Path.{refl, ◌∙◌}
use native.Mathlib.Omega.{arith}
use Rattle.record_layout.proofs.Sound.{sound_long}
use Rattle.report_lines.specs.Lines.{image_lines}
use Rattle.report_lines.proofs.Rows.{rows_none, rows_room, rows_more, rows_all}
use Rattle.report_lines.proofs.image_lines.Goals as goal

pub bank_count-b-end-requires : goal.bank_count-b-end-requires
bank_count-b-end-requires c = sound_long c.args.r.now c.requires.0

pub loop-b-init : goal.loop-b-init
unfolding image_lines
loop-b-init c = (refl, rows_none c.bank_count-b-end.ensures c.requires.2)

pub image_line-requires : goal.image_line-requires
unfolding image_lines
image_line-requires c =
    let t = c.loop-b-test.true in
    (c.requires.0, c.requires.1, omega (arith, c.loop-b.invariant.1.limit, t), rows_room c.loop-b.invariant.1 c.requires.2 t)

pub loop-b-preserved : goal.loop-b-preserved
unfolding image_lines
loop-b-preserved c =
    let e = c.image_line.ensures in
    (e.same_reference ∙ c.loop-b.invariant.0, rows_more c.loop-b.invariant.1 c.requires.2 c.loop-b-test.true e.wrote)

pub returns-clause-wrote : goal.returns-clause-wrote
unfolding image_lines
returns-clause-wrote c = rows_all c.loop-b.invariant.1 c.loop-b-test.false
