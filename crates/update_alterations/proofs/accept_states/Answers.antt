-- `accept_states` meets its contract. Assumes nothing.
use mathlib.Core.Path.{sym, ◌∙◌}
use Rattle.record_layout.proofs.Sound.{sound_long, sound_named}
use Rattle.update_alterations.proofs.accept_states.Goals as goal

pub active-requires : goal.active-requires
active-requires c = sound_long c.args.r.now c.requires.0

pub states_with-requires : goal.states_with-requires
states_with-requires c =
    let r = c.args.r.now in
    (c.requires.0, rw c.active.ensures (sound_named r c.requires.0).0)

pub returns-then-all_accepted_after : goal.returns-then-all_accepted_after
returns-then-all_accepted_after c =
    rw (sym c.all_accepted_after.ensures ∙ c.if-all_accepted_after.true, ← c.active.ensures) c.states_with.ensures

pub states-requires : goal.states-requires
states-requires c = sound_long c.args.r.now c.requires.0

pub returns-else-all_accepted_after : goal.returns-else-all_accepted_after
returns-else-all_accepted_after c = rw (sym c.all_accepted_after.ensures ∙ c.if-all_accepted_after.false) c.states.ensures
