-- `try_end` meets its contract. Assumes nothing.
use Rattle.std.proofs.Common.{rules, ◌≡◌, refl, length}
use Rattle.std.specs.Prelude.{Err}
use Rattle.refusals.specs.declared.Refusal.TheVariants.{SessionState, ImagesMissing}
use Rattle.refusal_order.specs.Decide.{decide}
use Rattle.update_changes.specs.Changed.{end, change_of, new_record}
use Rattle.update_session.specs.Calls.{own_tests, next_session}
use Rattle.update_session.proofs.Named.{not_staging}
use Rattle.update_session.proofs.Answered.{common_held, common_changeable, common_below, refused_first, refused_own, accepted_own}
use borrow.Author.Tests.{eq-eqb, ne_eqb}
use Rattle.update_session.proofs.Session.try_end.Goals as goal

pub returns-in_err-admit : goal.returns-in_err-admit
returns-in_err-admit c =
    let why : c.from_residual.result ≡ Err c.in_err-admit.field-0.0 = search rules in
    rw why (refused_first end c.args.self.now c.args.area.now c.args.out.now _ c.in_err-admit.ensures)

pub returns-in_default : goal.returns-in_default
unfolding decide own_tests
returns-in_default c =
    refused_own end c.args.self.now c.args.area.now c.args.out.now SessionState c.in_ok-admit.ensures
    (rw (not_staging c.args.self.now c.in_default.not-Staging))

pub held_record-requires : goal.held_record-requires
held_record-requires c = common_held c.args.self.now c.args.area.now (length c.args.out.now) c.in_ok-admit.ensures

pub missing_images-count-requires : goal.missing_images-count-requires
missing_images-count-requires c =
    let s = c.in-Staging in
    let a = c.args in (
      c.held_record.ensures.1,
      rw c.held_record.ensures.0 (common_below a.self.now s.bank s.set a.area.now (length a.out.now) s.is c.in_ok-admit.ensures),
    )

pub returns-then-count-ne0 : goal.returns-then-count-ne0
unfolding decide own_tests
returns-then-count-ne0 c =
    refused_own end c.args.self.now c.args.area.now c.args.out.now (ImagesMissing c.missing_images-count.result) c.in_ok-admit.ensures
    (rw (c.in-Staging.is, ← c.held_record.ensures.0, ← c.missing_images-count.ensures, ne_eqb _ _ c.if-count-ne0.true))

pub change-requires : goal.change-requires
change-requires c = (common_changeable c.args.self.now c.args.area.now c.args.out.now c.in_ok-admit.ensures, tt)

pub returns : goal.returns
unfolding decide own_tests next_session new_record change_of
returns c =
    accepted_own end c.args.self.now c.args.area.now c.args.out.now _ _ c.in_ok-admit.ensures
    (rw (c.in-Staging.is, ← c.held_record.ensures.0, ← c.missing_images-count.ensures, eq-eqb _ _ c.if-count-ne0.false))
    refl c.change.ensures
