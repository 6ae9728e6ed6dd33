-- `state_with` meets its contract. Assumes nothing.
use mathlib.Core.Path.{sym, ◌∙◌}
use Rattle.record_layout.proofs.Sound.{sound_long}
use Rattle.update_changes.proofs.Setting.{state_is, state_other}
use Rattle.update_changes.proofs.state_with.Goals as goal

pub returns-then-k-b : goal.returns-then-k-b
returns-then-k-b c =
    let a = c.args in
    rw c.if-k-b.true (sym (state_is a.r.now c.requires.0 a.b a.s c.requires.1))

pub state-requires : goal.state-requires
state-requires c = (sound_long c.args.r.now c.requires.0, c.requires.2)

pub returns-else-k-b : goal.returns-else-k-b
returns-else-k-b c =
    let a = c.args in
    c.state.ensures ∙ sym (state_other a.r.now c.requires.0 a.b a.s c.requires.1 a.k c.if-k-b.false)
