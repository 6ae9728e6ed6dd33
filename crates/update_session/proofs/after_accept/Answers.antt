-- `after_accept` meets its contract. Assumes nothing.
use mathlib.Core.Path.{sym, ◌∙◌}
use Rattle.update_session.specs.Calls.{after_accept}
use Rattle.update_session.proofs.after_accept.Goals as goal

pub returns-then-all_accepted_after : goal.returns-then-all_accepted_after
unfolding after_accept
returns-then-all_accepted_after c = rw (sym c.all_accepted_after.ensures ∙ c.if-all_accepted_after.true)

pub returns-else-all_accepted_after : goal.returns-else-all_accepted_after
unfolding after_accept
returns-else-all_accepted_after c = rw (sym c.all_accepted_after.ensures ∙ c.if-all_accepted_after.false)
