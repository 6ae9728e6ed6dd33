-- `start_up` meets its contract. Assumes nothing.
use Rattle.std.proofs.Common.{rules, arith, ◌≡◌, sym, ◌∙◌}
use Rattle.std.specs.Prelude.{Some, None, Err}
use Rattle.refusals.specs.declared.Refusal.TheVariants.{NoSoundCopy}
use Rattle.record_copies.specs.Copies.{source_of}
use borrow.Author.Tests.{eq-eqb, ne_eqb}
use Rattle.refusal_order.specs.Decide.{decide, reply}
use Rattle.update_admission.specs.Rows.{read_tests}
use Rattle.update_admission.proofs.Area.{none_sound}
use Rattle.update_start_up.specs.StartUp.{start_up_tests, start_up_of}
use Rattle.update_start_up.proofs.Reading.{read_by}
use Rattle.update_start_up.proofs.start_up.Goals as goal

pub returns-then-area-ne-AREA : goal.returns-then-area-ne-AREA
unfolding start_up_of start_up_tests read_tests decide reply
returns-then-area-ne-AREA c = rw (ne_eqb _ _ c.if-area-ne-AREA.true)

pub returns-in_err-from : goal.returns-in_err-from
unfolding start_up_of start_up_tests read_tests decide reply
returns-in_err-from c =
    let a = c.args.area.now in
    let why : c.from_residual.result ≡ Err NoSoundCopy = search rules in
    let none : source_of a ≡ None = grind arith in
    rw (why, eq-eqb _ _ c.if-area-ne-AREA.false, none_sound a none)

pub returns : goal.returns
returns c =
    let a = c.args.area.now in
    let some : source_of a ≡ Some c.in_ok-from.from = search rules in
    c.session_from.ensures ∙ rw c.read_record.ensures.0 (sym (read_by a c.args.booted c.in_ok-from.from c.if-area-ne-AREA.false some))
