-- `held_record` meets its contract. Assumes nothing.
use mathlib.Core.Path.{refl}
use Rattle.record_copies.proofs.Reading.{equal_sound}
use Rattle.record_copies.proofs.held_record.Goals as goal

pub returns : goal.returns
returns c = rw c.record_at.ensures (refl, equal_sound c.args.area.now c.requires.1)
