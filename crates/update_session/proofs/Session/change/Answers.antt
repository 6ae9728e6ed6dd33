-- `change` meets its contract. Assumes nothing.
use mathlib.Core.Path.{refl}
use Rattle.update_session.proofs.Answered.{listed}
use Rattle.update_session.proofs.Session.change.Goals as goal

pub held_record-requires : goal.held_record-requires
held_record-requires c = (c.requires.0.long, c.requires.0.equal)

pub alteration_for-x-requires : goal.alteration_for-x-requires
alteration_for-x-requires c = (c.held_record.ensures.1, rw c.held_record.ensures.0 c.requires.1)

pub list_change-requires : goal.list_change-requires
list_change-requires c = (c.requires.0, rw (← c.held_record.ensures.0) c.alteration_for-x.ensures.within)

pub returns : goal.returns
returns c = listed _ _ _ _ _ _ _ _ refl (rw c.held_record.ensures.0 at c.alteration_for-x.ensures.new_is) c.list_change.ensures
