-- `commit_alteration` meets its contract. Assumes nothing.
use Rattle.update_alterations.proofs.Making.{commit_makes}
use Rattle.update_alterations.proofs.commit_alteration.Goals as goal

pub returns : goal.returns
returns c =
    rw (c.unaltered.ensures.is, c.update_bank.ensures.0, c.flag_for.ensures)
    (commit_makes c.args.r.now c.requires.0 (λ i. (c.type_inv.r i).fits) c.args.i c.args.request c.requires.1)
