-- `end_alteration` meets its contract. Assumes nothing.
use native.Mathlib.Omega.{arith}
use Rattle.update_changes.proofs.Banks.{banks_few}
use Rattle.update_alterations.proofs.Making.{end_makes}
use Rattle.update_alterations.proofs.end_alteration.Goals as goal

pub overflow_cast-result : goal.overflow_cast-result
overflow_cast-result c = omega (arith, c.update_bank-bank.ensures.1, (banks_few c.args.r.now c.requires).1)

pub returns : goal.returns
returns c =
    rw (c.unaltered-old.ensures.is, c.states_with.ensures, c.end_state.ensures, c.update_bank-bank.ensures.0)
    (end_makes c.args.r.now c.requires (λ i. (c.type_inv.r i).fits))
