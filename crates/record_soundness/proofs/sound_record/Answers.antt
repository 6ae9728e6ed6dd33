-- `sound_record` meets its contract: the fourteen rules in their two parts. Assumes nothing.
use mathlib.Core.Path.{sym, ◌∙◌}
use Rattle.record_layout.proofs.Sound.{sound_split}
use Rattle.record_soundness.proofs.sound_record.Goals as goal

pub returns-then-first_six : goal.returns-then-first_six
returns-then-first_six c = rw (← sound_split c.args.r.now, sym c.first_six.ensures ∙ c.if-first_six.true) c.last_eight.ensures

pub returns-else-first_six : goal.returns-else-first_six
returns-else-first_six c = rw (← sound_split c.args.r.now, sym c.first_six.ensures ∙ c.if-first_six.false) c.if-first_six.false
