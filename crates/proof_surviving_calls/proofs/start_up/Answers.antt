-- `update_start_up` meets its contract. Assumes nothing.
use mathlib.Core.Path.{◌∙◌}
use Rattle.proof_surviving_calls.proofs.start_up.Goals as goal

pub returns : goal.returns
returns c = λ r h. c.start_up.ensures ∙ h.answers _
