-- `meanderpeg_soundness` meets its contract. Assumes nothing.
use borrow.Author.Tests.{eq-eqb, ne_eqb}
use Rattle.refusal_order.specs.Decide.{decide, reply}
use Rattle.c_area.specs.Soundness.{exported_soundness}
use Rattle.c_area.proofs.meanderpeg_soundness.Goals as goal

pub returns-then-area-ne-AREA : goal.returns-then-area-ne-AREA
unfolding exported_soundness decide reply
returns-then-area-ne-AREA c = rw (ne_eqb _ _ c.if-area-ne-AREA.true)

pub returns : goal.returns
unfolding exported_soundness decide reply
returns c = rw (eq-eqb _ _ c.if-area-ne-AREA.false, c.sound_copies.ensures)
