-- `states_with` meets its contract. Assumes nothing.
use borrow.Author.Rules.{rules}
use Rattle.fields.specs.Number.{le}
use Rattle.update_changes.proofs.states_with.Goals as goal

pub returns : goal.returns
unfolding le
returns c = search rules
