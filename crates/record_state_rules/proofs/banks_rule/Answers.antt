-- `banks_rule` meets its contract: each bank is tested, then the active bank. Assumes nothing.
use mathlib.Core.Path.{◌≡◌, refl, sym, ◌∙◌}
use Rattle.std.proofs.Common.{rules}
use Rattle.record_layout.proofs.Every.{below_from_all}
use Rattle.record_layout.specs.Every.{below}
use Rattle.record_layout.specs.Layout.{bank_count}
use Rattle.record_layout.specs.Rules.{bank_consistent, banks_rule}
use Rattle.record_state_rules.proofs.banks_rule.Goals as goal
use Rattle.record_state_rules.proofs.banks_rule.Goals.{After-all}

each_bank : (c : After-all) → c.all.result ≡ below (bank_count c.args.c.bytes.now) (bank_consistent c.args.c.bytes.now)
each_bank c =
    let a = c.args in
    rw c.args.c.sized.banks_is
    (below_from_all (bank_consistent a.c.bytes.now) a.c.banks _ _ c.all.result refl c.all.ensures.ran (λ x b q k. search rules))

pub returns-then-all : goal.returns-then-all
unfolding banks_rule
returns-then-all c =
    let tested = sym (each_bank (goal.at.returns-then-all c).After-all) ∙ c.if-all.true in
    rw (tested, ← c.active.ensures, c.state.ensures)

pub returns-else-all : goal.returns-else-all
unfolding banks_rule
returns-else-all c =
    let tested = sym (each_bank (goal.at.returns-else-all c).After-all) ∙ c.if-all.false in
    rw (tested, c.if-all.false)
