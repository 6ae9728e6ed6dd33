-- `write_directory` meets its contract. Assumes nothing.
use mathlib.Core.Path.{◌≡◌, sym, ◌∙◌}
use Rattle.std.proofs.Common.{rules, arith}
use Rattle.std.specs.Prelude.{Some, None, Err}
use borrow.Author.Tests.{ne_eqb, eq-eqb}
use Rattle.refusals.specs.declared.Refusal.TheVariants.{NoSoundCopy}
use Rattle.refusal_order.specs.Decide.{decide}
use Rattle.record_copies.specs.Copies.{source_of}
use Rattle.update_admission.specs.Rows.{read_tests}
use Rattle.update_admission.proofs.Area.{none_sound}
use Rattle.update_start_up.specs.StartUp.{start_up_tests}
use Rattle.directory_writer.specs.Writer.{writer_tests, written_by, written}
use Rattle.directory_writer.proofs.Steps.{by_record}
use Rattle.directory_writer.proofs.write_directory.Goals as goal

pub returns-then-area-ne-AREA : goal.returns-then-area-ne-AREA
unfolding written writer_tests start_up_tests read_tests decide written_by
returns-then-area-ne-AREA c = rw (ne_eqb _ _ c.if-area-ne-AREA.true)

pub returns-in_err-from : goal.returns-in_err-from
unfolding written writer_tests start_up_tests read_tests decide written_by
returns-in_err-from c =
    let a = c.args.area.now in
    let why : c.from_residual.result ≡ Err NoSoundCopy = search rules in
    let none : source_of a ≡ None = grind arith in
    rw (why, eq-eqb _ _ c.if-area-ne-AREA.false, none_sound a none)

pub returns : goal.returns
returns c =
    let a = c.args in
    let some : source_of a.area.now ≡ Some c.in_ok-from.from = search rules in
    c.write_from.ensures
    ∙ rw c.read_record.ensures.0 (sym (by_record a.area.now a.booted a.words.now a.out.now c.in_ok-from.from c.if-area-ne-AREA.false some))
