-- `previous_accepted` meets its contract. Assumes nothing.
use native.Mathlib.Omega.{arith}
use Rattle.record_layout.proofs.Sound.{sound_long, sound_named}
use Rattle.update_changes.proofs.Banks.{banks_few}
use Rattle.update_changes.proofs.previous_accepted.Goals as goal

pub previous-requires : goal.previous-requires
previous-requires c = sound_long c.args.r.now c.requires

pub state-requires : goal.state-requires
state-requires c =
    let r = c.args.r.now in
    (sound_long r c.requires, omega (arith, (banks_few r c.requires).1, (sound_named r c.requires).1, c.previous.ensures))

pub returns : goal.returns
returns c = rw (c.state.ensures, c.previous.ensures)
