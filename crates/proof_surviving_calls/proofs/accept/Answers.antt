-- `accept` meets its contract. Assumes nothing.
use Rattle.proof_surviving_calls.proofs.Ties.{tied}
use Rattle.proof_surviving_calls.proofs.accept.Goals as goal

pub returns : goal.returns
returns c = tied _ _ _ _ _ _ (λ j. (c.type_inv.area j).fits) c.accept.ensures
