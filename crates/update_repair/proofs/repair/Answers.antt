-- `repair` meets its contract. Assumes nothing.
use Rattle.std.proofs.Common.{rules, arith, ◌≡◌}
use Rattle.std.specs.Prelude.{Some, None, Err}
use Rattle.refusals.specs.declared.Refusal.TheVariants.{NoSoundCopy}
use Rattle.record_copies.specs.Copies.{source_of}
use borrow.Author.Tests.{eq-eqb, ne_eqb, le-ltb, lt-ltb}
use Rattle.record_stores.specs.Stores.{store_numbers}
use Rattle.refusal_order.specs.Decide.{decide}
use Rattle.update_admission.specs.Rows.{repair_tests}
use Rattle.update_admission.proofs.Area.{none_sound, some_sound}
use Rattle.update_repair.specs.Repair.{repaired_by, repaired}
use Rattle.update_repair.proofs.repair.Goals as goal

pub returns-then-area-ne-AREA : goal.returns-then-area-ne-AREA
unfolding repaired repaired_by repair_tests decide
returns-then-area-ne-AREA c = rw (ne_eqb _ _ c.if-area-ne-AREA.true)

pub returns-then-out-lt-STORE_NUMBERS : goal.returns-then-out-lt-STORE_NUMBERS
unfolding repaired repaired_by repair_tests decide
returns-then-out-lt-STORE_NUMBERS c = rw (eq-eqb _ _ c.if-area-ne-AREA.false, lt-ltb _ store_numbers c.if-out-lt-STORE_NUMBERS.true)

pub returns-in_err-from : goal.returns-in_err-from
unfolding repaired repaired_by repair_tests decide
returns-in_err-from c =
    let a = c.args.area.now in
    let why : c.from_residual.result ≡ Err NoSoundCopy = search rules in
    let none : source_of a ≡ None = grind arith in
    rw (why, eq-eqb _ _ c.if-area-ne-AREA.false, le-ltb _ store_numbers c.if-out-lt-STORE_NUMBERS.false, none_sound a none)

pub returns : goal.returns
unfolding repaired repaired_by repair_tests decide
returns c =
    let a = c.args.area.now in
    let some : source_of a ≡ Some c.in_ok-from.from = search rules in
    rw (
      eq-eqb _ _ c.if-area-ne-AREA.false,
      le-ltb _ store_numbers c.if-out-lt-STORE_NUMBERS.false,
      some_sound a c.in_ok-from.from some,
      c.list_repair.ensures.count,
      c.list_repair.ensures.lists,
    )
