-- `bank_lines` meets its contract. The loop's invariant: the lines of the banks below b are written. Assumes nothing.
use mathlib.Core.Path.{refl, ◌∙◌}
use native.Mathlib.Omega.{arith}
use Rattle.record_layout.proofs.Sound.{sound_long}
use Rattle.report_lines.proofs.Rows.{rows_none, rows_room, rows_more, rows_all}
use Rattle.report_lines.proofs.bank_lines.Goals as goal

pub bank_count-b-end-requires : goal.bank_count-b-end-requires
bank_count-b-end-requires c = sound_long c.args.r.now c.requires.0

pub loop-b-init : goal.loop-b-init
loop-b-init c = (refl, rows_none c.bank_count-b-end.ensures c.requires.1)

pub bank_line-requires : goal.bank_line-requires
bank_line-requires c =
    let t = c.loop-b-test.true in
    (c.requires.0, omega (arith, c.loop-b.invariant.1.limit, t), rows_room c.loop-b.invariant.1 c.requires.1 t)

pub loop-b-preserved : goal.loop-b-preserved
loop-b-preserved c =
    let e = c.bank_line.ensures in
    (e.same_reference ∙ c.loop-b.invariant.0, rows_more c.loop-b.invariant.1 c.requires.1 c.loop-b-test.true e.wrote)

pub returns-clause-wrote : goal.returns-clause-wrote
returns-clause-wrote c = rows_all c.loop-b.invariant.1 c.loop-b-test.false
