-- `meanderpeg_directory_check` meets its contract. Assumes nothing.
use Rattle.refusal_order.specs.Decide.{reply}
use Rattle.directory_reader.specs.Reader.{shown_images, shown_correct_boot}
use Rattle.c_directory_reader.proofs.meanderpeg_directory_check.Goals as goal

pub returns-in-Ok : goal.returns-in-Ok
unfolding reply shown_images shown_correct_boot
returns-in-Ok c = rw (← c.refusal.ensures, c.in-Ok.is, c.read32.ensures, c.read32-in-Ok.ensures)

pub returns-in-Err : goal.returns-in-Err
unfolding reply
returns-in-Err c = rw (← c.refusal.ensures, c.in-Err.is, c.number.ensures)
