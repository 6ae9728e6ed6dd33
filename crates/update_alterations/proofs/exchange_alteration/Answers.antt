-- `exchange_alteration` meets its contract. Assumes nothing.
use Rattle.update_alterations.proofs.Making.{exchange_makes}
use Rattle.update_alterations.proofs.exchange_alteration.Goals as goal

pub returns : goal.returns
returns c = rw c.unaltered-x.ensures.is (exchange_makes c.args.r.now c.requires (λ i. (c.type_inv.r i).fits))
