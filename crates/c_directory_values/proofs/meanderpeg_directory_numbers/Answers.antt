-- `meanderpeg_directory_numbers` meets its contract. Assumes nothing.
use Rattle.refusal_order.specs.Decide.{reply}
use Rattle.directory_values.specs.Values.{shown_numbers}
use Rattle.c_directory_values.proofs.meanderpeg_directory_numbers.Goals as goal

pub returns-in-Ok : goal.returns-in-Ok
unfolding reply shown_numbers
returns-in-Ok c = rw (← c.refusal.ensures, c.in-Ok.is, ← c.numbers_or_zeros-n.ensures)

pub returns-in-Err : goal.returns-in-Err
unfolding reply
returns-in-Err c = rw (← c.refusal.ensures, c.in-Err.is, c.number.ensures)
