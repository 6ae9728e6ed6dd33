-- `unaltered` meets its contract. Assumes nothing.
use Rattle.record_layout.proofs.Sound.{sound_long}
use Rattle.record_alterations.proofs.Stays.{unaltered_is}
use Rattle.record_alterations.proofs.unaltered.Goals as goal

pub active-requires : goal.active-requires
active-requires c = sound_long c.args.r.now c.requires

pub previous-requires : goal.previous-requires
previous-requires c = sound_long c.args.r.now c.requires

pub states-requires : goal.states-requires
states-requires c = sound_long c.args.r.now c.requires

pub returns : goal.returns
returns c =
    rw (c.active.ensures, c.previous.ensures, c.states.ensures)
    (unaltered_is c.args.r.now c.requires (λ i. (c.type_inv.r i).fits))
