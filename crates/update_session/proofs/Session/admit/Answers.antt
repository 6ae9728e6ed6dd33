-- `admit` meets its contract. Assumes nothing.
use Rattle.std.proofs.Common.{rules, ◌≡◌, sym, ◌∙◌}
use Rattle.std.specs.Prelude.{Err}
use Rattle.refusal_order.specs.Decide.{decide}
use Rattle.refusal_order.proofs.Decide.{refused_before, passed_before}
use Rattle.update_admission.specs.Rows.{area_tests}
use Rattle.update_session.specs.Calls.{common_tests}
use Rattle.update_session.proofs.Named.{not_staging}
use Rattle.update_session.proofs.Answered.{area_held}
use Rattle.update_session.proofs.Session.admit.Goals as goal

pub returns-in_err-admit_area : goal.returns-in_err-admit_area
unfolding common_tests
returns-in_err-admit_area c =
    let why : c.from_residual.result ≡ Err c.in_err-admit_area.field-0.0 = search rules in
    rw why (refused_before (area_tests c.args.area.now c.args.numbers) _ _ _ c.in_err-admit_area.ensures)

pub held_record-requires : goal.held_record-requires
held_record-requires c = area_held c.args.area.now c.args.numbers c.in_ok-admit_area.ensures

pub returns-then-not-staged : goal.returns-then-not-staged
unfolding common_tests decide
returns-then-not-staged c =
    passed_before (area_tests c.args.area.now c.args.numbers) _ _ c.in_ok-admit_area.ensures
    (rw (c.in-Staging.is, ← c.held_record.ensures.0, sym c.staged.ensures ∙ c.if-not-staged.true))

pub returns-else-not-staged : goal.returns-else-not-staged
unfolding common_tests decide
returns-else-not-staged c =
    passed_before (area_tests c.args.area.now c.args.numbers) _ _ c.in_ok-admit_area.ensures
    (rw (c.in-Staging.is, ← c.held_record.ensures.0, sym c.staged.ensures ∙ c.if-not-staged.false))

pub returns-in_default : goal.returns-in_default
unfolding common_tests decide
returns-in_default c =
    passed_before (area_tests c.args.area.now c.args.numbers) _ _ c.in_ok-admit_area.ensures
    (rw (not_staging c.args.self c.in_default.not-Staging))
