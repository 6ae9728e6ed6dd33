-- `second_agrees` meets its contract. Assumes nothing.
use mathlib.Core.Path.{sym, ◌∙◌}
use Rattle.record_copies.proofs.Reading.{from_copy0}
use Rattle.record_copies.specs.Copies.{sound_and_equal}
use Rattle.record_layout.specs.Rules.{sound_copy}
use Rattle.record_copies.proofs.second_agrees.Goals as goal

pub returns-then-sound_at : goal.returns-then-sound_at
unfolding sound_and_equal sound_copy
returns-then-sound_at c = rw (from_copy0 c.args.area.now c.requires.1, sym c.sound_at.ensures ∙ c.if-sound_at.true) c.records_equal.ensures

pub returns-else-sound_at : goal.returns-else-sound_at
unfolding sound_and_equal sound_copy
returns-else-sound_at c = rw (from_copy0 c.args.area.now c.requires.1, sym c.sound_at.ensures ∙ c.if-sound_at.false) c.if-sound_at.false
