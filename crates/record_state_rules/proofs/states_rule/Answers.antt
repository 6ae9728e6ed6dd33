-- `states_rule` meets its contract. Assumes nothing.
use mathlib.Core.Path.{refl}
use Rattle.std.proofs.Common.{rules}
use Rattle.record_layout.proofs.Every.{below_from_all}
use Rattle.record_layout.specs.Layout.{bank_limit, bank_count, state}
use Rattle.record_layout.specs.Rules.{state_allowed, states_rule}
use Rattle.record_state_rules.proofs.states_rule.Goals as goal

pub returns : goal.returns
unfolding states_rule
returns c =
    let r = c.args.c.bytes.now in
    below_from_all (λ b. state_allowed (bank_count r) b (state r b)) bank_limit _ _ c.all.result refl c.all.ensures.ran
    (λ x b q k. search (rules, c.args.c.sized.banks_is))
