-- `write32` meets its contract. Assumes nothing.
use mathlib.Core.Path.{◌∙◌}
use Rattle.field_writes.proofs.Written.{written}
use Rattle.field_writes.proofs.write32.Goals as goal

pub returns : goal.returns
returns c = written 4 c.args.s.now c.args.at c.args.v (c.copy_from_slice.ensures.after ∙ c.to_le_bytes.ensures)
