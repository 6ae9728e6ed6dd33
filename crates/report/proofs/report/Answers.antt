-- `report` meets its contract. Assumes nothing.
use mathlib.Core.Path.{sym, ◌∙◌}
use Rattle.std.specs.Prelude.{Some}
use native.Mathlib.Omega.{arith}
use borrow.Author.Tests.{lt-leb}
use Rattle.refusals.specs.Number.{number_of}
use Rattle.refusals.specs.declared.Refusal.TheVariants.{AreaLength, NoSoundCopy}
use Rattle.record_copies.specs.Copies.{record_read}
use Rattle.report_lines.specs.Lines.{record_lines}
use Rattle.report_lines.proofs.Lengths.{record_room}
use Rattle.report.specs.Report.{copy_number, refused_line, report_in}
use Rattle.report.proofs.Whole.{small_copy, refused_room, report_is, report_length, report_some, report_none}
use Rattle.report.proofs.report.Goals as goal

pub returns-then-out-lt-REPORT_LIMIT : goal.returns-then-out-lt-REPORT_LIMIT
unfolding report_in
returns-then-out-lt-REPORT_LIMIT c = rw (lt-leb _ _ c.if-out-lt-REPORT_LIMIT.true)

pub refused_line-requires : goal.refused_line-requires
refused_line-requires c = refused_room (number_of AreaLength) c.args.out.now (omega arith) c.if-out-lt-REPORT_LIMIT.false

pub returns-then-area-ne-AREA : goal.returns-then-area-ne-AREA
returns-then-area-ne-AREA c =
    let a = c.args in
    report_is a.area.now (refused_line (number_of AreaLength)) a.out.now _ _ c.if-out-lt-REPORT_LIMIT.false
    (report_length a.area.now c.if-area-ne-AREA.true) c.refused_line.ensures

pub refused_line-requires-in_default : goal.refused_line-requires-in_default
refused_line-requires-in_default c = refused_room (number_of NoSoundCopy) c.args.out.now (omega arith) c.if-out-lt-REPORT_LIMIT.false

pub returns-in_default : goal.returns-in_default
returns-in_default c =
    let a = c.args in
    report_is a.area.now (refused_line (number_of NoSoundCopy)) a.out.now _ _ c.if-out-lt-REPORT_LIMIT.false
    (report_none a.area.now c.if-area-ne-AREA.false (sym c.read_source.ensures ∙ c.in_default.is)) c.refused_line-in_default.ensures

pub record_lines-requires : goal.record_lines-requires
record_lines-requires c =
    let s = c.read_record.ensures.1 in
    (s, record_room _ s _ c.args.out.now (rw c.copy_number.ensures (small_copy c.in-Some.from)) c.if-out-lt-REPORT_LIMIT.false)

pub returns : goal.returns
returns c =
    let a = c.args in
    let r = record_read a.area.now in
    let s = c.in-Some.from in
    report_is a.area.now (record_lines (copy_number (Some s)) r) a.out.now _ _ c.if-out-lt-REPORT_LIMIT.false
    (report_some a.area.now c.if-area-ne-AREA.false s (sym c.read_source.ensures ∙ c.in-Some.is))
    (rw (← c.copy_number.ensures, ← c.read_record.ensures.0) c.record_lines.ensures)
