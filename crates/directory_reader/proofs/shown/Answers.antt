-- `shown` meets its contract: the header lies in a directory that is taken. Assumes nothing.
use mathlib.Core.Path.{sym, ap, ◌∙◌}
use native.Mathlib.Omega.{arith}
use Rattle.refusal_order.specs.Decide.{decision_of}
use Rattle.directory_reader.proofs.Taken.{taken}
use Rattle.directory_reader.proofs.shown.Goals as goal

pub read32-requires : goal.read32-requires
read32-requires c = omega (arith, c.requires, (taken _ (sym c.refusal.ensures ∙ ap decision_of c.in-Ok.is)).long)
