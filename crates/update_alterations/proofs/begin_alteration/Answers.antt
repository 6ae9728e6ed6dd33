-- `begin_alteration` meets its contract. Assumes nothing.
use Rattle.record_layout.proofs.Sound.{sound_long}
use Rattle.update_alterations.proofs.Making.{begin_makes}
use Rattle.update_alterations.proofs.begin_alteration.Goals as goal

pub image_count-requires : goal.image_count-requires
image_count-requires c = sound_long c.args.r.now c.requires

pub returns : goal.returns
returns c =
    rw (c.unaltered.ensures.is, c.states_with.ensures, c.image_count.ensures, c.update_bank-bank.ensures.0)
    (begin_makes c.args.r.now c.requires (λ i. (c.type_inv.r i).fits))
