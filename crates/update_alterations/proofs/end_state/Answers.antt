-- `end_state` meets its contract. Assumes nothing.
use mathlib.Core.Path.{sym, ◌∙◌}
use Rattle.record_layout.proofs.Sound.{sound_long}
use Rattle.update_changes.proofs.Banks.{sized}
use Rattle.update_alterations.proofs.end_state.Goals as goal

pub bank_count-requires : goal.bank_count-requires
bank_count-requires c = sound_long c.args.r.now c.requires.0

pub image_count-requires : goal.image_count-requires
image_count-requires c = sound_long c.args.r.now c.requires.0

pub all_accepted-requires : goal.all_accepted-requires
all_accepted-requires c = rw (c.bank_count.ensures, c.image_count.ensures) (sized c.args.r.now c.requires.0, c.requires.1)

pub returns-then-all_accepted : goal.returns-then-all_accepted
returns-then-all_accepted c = rw (sym c.all_accepted.ensures ∙ c.if-all_accepted.true)

pub returns-else-all_accepted : goal.returns-else-all_accepted
returns-else-all_accepted c = rw (sym c.all_accepted.ensures ∙ c.if-all_accepted.false)
