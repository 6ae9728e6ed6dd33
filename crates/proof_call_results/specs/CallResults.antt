-- What an accepted call tells of the record that it makes and of the session that it answers (S19, S20): the new record
-- is sound and is what the call's rule says; a Staging session that is answered fits it, so that a caller who did all
-- the stores does not meet 24; and a start-up in the bank that is active then gives the session named here. Cancel
-- answers Regular whatever the active bank's state (S11). k is a call, q the session given, a the bytes of the area, s
-- the numbers of the store slice, r the bytes of the record that both copies hold. Assumes nothing.
use Rattle.std.specs.Prelude.{ℕ, ◌≡◌, false, cond, List}
use Rattle.fields.specs.Number.{Bytes}
use Rattle.record_layout.specs.Layout.{active}
use Rattle.record_layout.specs.Rules.{all_accepted}
use Rattle.refusal_order.specs.Decide.{passed, gives}
use Rattle.update_changes.specs.NewRecord.{update_bank_of, image_with}
use Rattle.update_changes.specs.Changed.{Call, begin, commit, end, cancel, accept, select_previous, change_of, new_record}
use Rattle.proof_kept_sound.specs.Kept.{Kept}
use Rattle.proof_kept_sound.specs.Fields.{fields_of, fields_after, FieldsAre}
use Rattle.update_session.specs.declared.Session.{Session}
use Rattle.update_session.specs.declared.Session.TheVariants.{Regular, Trial}
use Rattle.update_session.specs.Calls.{Result, held, staging_test, after_accept, next_session, answered}
use Rattle.update_start_up.specs.StartUp.{started_session, started_from}

-- the answer is no refusal
abbrev pub Passed : Result → Type 0
Passed x = x.0.1 ≡ passed

-- the session that a start-up in the active bank gives after the call: after End by the bank that was staged, after
-- Accept the very session that Accept answers, after Select previous Regular; Begin, Commit and Cancel leave the active
-- bank as it was
abbrev pub started_after : Call → (r : List ℕ) → Session
started_after begin r = started_session r (active r)
started_after (commit g request) r = started_session r (active r)
started_after end r = cond (all_accepted r (update_bank_of r)) Regular Trial
started_after cancel r = started_session r (active r)
started_after (accept g) r = after_accept (image_with g r) r
started_after select_previous r = Regular

--     kept       the new record is sound, bytes, and as long as the old one
--     makes      what it is, field by field: what the call's rule alters, and every other byte but the CRC's as it was
--     no_fault   24 is not given to a call with the session answered, on the new record
--     starts     start-up in the bank that the new record names as active
pub record Tells (k : Call) (q : Session) (r : List ℕ) : Type 0 where
  pub kept : Kept r (new_record k r)
  pub makes : FieldsAre r (new_record k r) (fields_after (change_of k r) r (fields_of r))
  pub no_fault : (staging_test (next_session k q r) (new_record k r)).0 ≡ false
  pub starts : started_from (new_record k r) (active (new_record k r)) ≡ gives (started_after k r)

abbrev pub CallResults : Type 0
CallResults = (k : Call) (q : Session) (a s : List ℕ) → Bytes a → Passed (answered k q a s) → Tells k q (held a)
