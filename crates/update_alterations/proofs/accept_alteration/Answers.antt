-- `accept_alteration` meets its contract. Assumes nothing.
use Rattle.update_alterations.proofs.Making.{accept_makes}
use Rattle.update_alterations.proofs.accept_alteration.Goals as goal

pub returns : goal.returns
returns c =
    rw (c.unaltered-x.ensures.is, c.accept_states.ensures)
    (accept_makes c.args.r.now c.requires.0 (λ i. (c.type_inv.r i).fits) c.args.i c.requires.1)
