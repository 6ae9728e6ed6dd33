-- `admit_area` meets its contract: by the copy that is read. Assumes nothing.
use Rattle.std.proofs.Common.{rules, ◌≡◌, arith, sym, ◌∙◌}
use Rattle.std.specs.Prelude.{Some, None, Err}
use Rattle.refusals.specs.declared.Refusal.TheVariants.{NoSoundCopy}
use Rattle.record_copies.specs.Copies.{source_of}
use Rattle.record_copies.specs.declared.Source.TheVariants.{Copy0, Copy1}
use Rattle.refusal_order.specs.Decide.{decide}
use Rattle.update_admission.proofs.Area.{by_copy0, by_copy1, by_none}
use Rattle.update_admission.proofs.admit_area.Goals as goal

pub returns-in_err-ok_or : goal.returns-in_err-ok_or
returns-in_err-ok_or c =
    let a = c.args.area.now in
    let none : source_of a ≡ None = grind arith in
    let why : c.from_residual.result ≡ Err NoSoundCopy = search rules in
    rw why (by_none a c.args.numbers c.if-area-ne-AREA.false c.if-numbers-lt-STORE_NUMBERS.false none)

pub returns-in-Copy0 : goal.returns-in-Copy0
unfolding decide
returns-in-Copy0 c =
    let a = c.args.area.now in
    let from : source_of a ≡ Some Copy0 = search rules in
    rw (
      ← by_copy0 a c.args.numbers c.if-area-ne-AREA.false c.if-numbers-lt-STORE_NUMBERS.false from,
      sym c.second_agrees.ensures ∙ c.if-second_agrees.true,
    )

pub returns-in_default : goal.returns-in_default
unfolding decide
returns-in_default c =
    let a = c.args.area.now in
    let from : source_of a ≡ Some Copy0 = search rules in
    rw (
      ← by_copy0 a c.args.numbers c.if-area-ne-AREA.false c.if-numbers-lt-STORE_NUMBERS.false from,
      sym c.second_agrees.ensures ∙ c.if-second_agrees.false,
    )

pub returns-in_default-2 : goal.returns-in_default-2
returns-in_default-2 c =
    let a = c.args.area.now in
    let from : source_of a ≡ Some Copy1 = search rules in
    by_copy1 a c.args.numbers c.if-area-ne-AREA.false c.if-numbers-lt-STORE_NUMBERS.false from
