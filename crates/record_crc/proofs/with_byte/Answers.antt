-- `with_byte` meets its contract: one lookup. Assumes nothing.
use mathlib.Core.Path.{sym}
use Rattle.record_crc.proofs.Lookup.{lookup}
use Rattle.record_crc.proofs.with_byte.Goals as goal

pub returns : goal.returns
returns c = let a = c.args in rw c.from.ensures (sym (lookup a.t.now c.requires a.r a.b))
