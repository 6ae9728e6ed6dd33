-- `update_repair` meets its contract. Assumes nothing.
use Rattle.proof_surviving_calls.proofs.Ties.{tied_repair}
use Rattle.proof_surviving_calls.proofs.repair.Goals as goal

pub returns : goal.returns
returns c = tied_repair _ _ _ _ (λ j. (c.type_inv.area j).fits) c.repair.ensures
