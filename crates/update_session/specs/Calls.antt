-- What each of the six calls answers and lists (S5 to S18, N24 to N27): the tests of a call in their order, and what it
-- leads to where none finds a fault. q is the session given, a the bytes of the area, s the numbers of the store slice,
-- g the bytes of a type GUID, r those of the record that both copies hold. Assumes nothing.
use Rattle.std.specs.Prelude.{ℕ, cond, not, ◌&&◌, List, [], ◌∷◌, ◌++◌, eqb, leb, length}
use Rattle.refusals.specs.declared.Refusal.TheVariants.{StagingFault, SessionState, NoImage, ImagesMissing}
use Rattle.record_layout.specs.Layout.{record_of, copy0, previous, state, image_count}
use Rattle.record_layout.specs.Rules.{accepted_bank}
use Rattle.record_stores.specs.Stores.{with_list}
use Rattle.record_store_lists.specs.ChangeStores.{change_stores}
use Rattle.update_changes.specs.NewRecord.{update_bank_of, image_with, completes}
use Rattle.update_changes.specs.Changed.{Call, begin, commit, end, cancel, accept, select_previous, new_record}
use Rattle.update_committed_set.specs.Set.{joined, missing, staged_fits}
use Rattle.refusal_order.specs.Decide.{Decision, passed, refusal, Test, decide}
use Rattle.update_admission.specs.Rows.{area_tests}
use Rattle.update_session.specs.declared.Session.{Session}
use Rattle.update_session.specs.declared.Session.TheVariants.{Regular, Staging, Trial, Restart}
use Rattle.update_session.specs.Outcome.{Outcome, passed_with}
use Rattle.update_session.specs.Sessions.{staging, kind_of, bank_of, set_of, among, named_for}

-- the record that both copies hold (S3). Looked at once 22 is past, so that it is that of copy 0 and of copy 1
abbrev pub held : List ℕ → List ℕ
held a = record_of (copy0 a)

-- ---- the tests that look at the session and the record
-- N24, of any call: a Staging session that doesn't fit the record
abbrev pub staging_test : Session → (r : List ℕ) → Test
staging_test q r = (among (kind_of q) (staging ∷ []) && not (staged_fits (bank_of q) (set_of q) r), StagingFault)

-- N25: the call isn't for that session
abbrev pub session_test : Call → Session → Test
session_test k q = (not (among (kind_of q) (named_for k)), SessionState)

-- N25, of Select previous: the previous bank isn't 252
abbrev pub previous_test : (r : List ℕ) → Test
previous_test r = (not (eqb (state r (previous r)) accepted_bank), SessionState)

-- N26: no entry has that type GUID
abbrev pub image_test : (g r : List ℕ) → Test
image_test g r = (leb (image_count r) (image_with g r), NoImage)

-- N27: images are missing from the set, and how many
abbrev pub missing_test : Session → (r : List ℕ) → Test
missing_test q r = (not (eqb (missing (set_of q) r) 0), ImagesMissing (missing (set_of q) r))

-- ---- the tests of a call (N110)
-- of every call, whatever session it names: 20, 23, 21, 22, 24
unfoldable pub common_tests : Session → (a : List ℕ) (sliceLength : ℕ) → List Test
common_tests q a sliceLength = area_tests a sliceLength ++ (staging_test q (held a) ∷ [])

-- of its own: 25, and what it asks beside
abbrev pub call_tests : Call → Session → (r : List ℕ) → List Test
call_tests begin q r = []
call_tests (commit g request) q r = image_test g r ∷ []
call_tests end q r = missing_test q r ∷ []
call_tests cancel q r = []
call_tests (accept g) q r = image_test g r ∷ []
call_tests select_previous q r = previous_test r ∷ []

unfoldable pub own_tests : Call → Session → (r : List ℕ) → List Test
own_tests k q r = session_test k q ∷ call_tests k q r

-- all of a call's tests, in their order
unfoldable pub tests : Call → Session → (a : List ℕ) (sliceLength : ℕ) → List Test
tests k q a sliceLength = common_tests q a sliceLength ++ own_tests k q (held a)

-- ---- what an accepted call leads to
-- Regular when all images are accepted, else Trial; also where the image was accepted already (S13, S14)
unfoldable pub after_accept : ℕ → (r : List ℕ) → Session
after_accept i r = cond (completes i r) Regular Trial

-- the next session
unfoldable pub next_session : Call → Session → (r : List ℕ) → Session
next_session begin q r = Staging (update_bank_of r) 0
next_session (commit g request) q r = Staging (bank_of q) (joined (image_with g r) (set_of q))
next_session end q r = Restart
next_session cancel q r = Regular
next_session (accept g) q r = after_accept (image_with g r) r
next_session select_previous q r = Restart

-- and the new record
abbrev pub transition : Call → Session → (r : List ℕ) → Session × List ℕ
transition k q r = (next_session k q r, new_record k r)

-- ---- a call's result: its answer, and the store slice at exit
abbrev pub Result : Type 0
Result = Outcome × List ℕ

-- the next session, and the stores that put the new record into both copies (S17). What must hold of the list is said
-- in crates/proof_power_cuts/specs
unfoldable pub changed_to : Session × List ℕ → (a s : List ℕ) → Result
changed_to to a s = (passed_with to.0 (length (change_stores a to.1)), with_list s (change_stores a to.1))

-- a refusal: its number and what it tells, the session as it was, no list and no number altered (N105 to N107)
unfoldable pub following : Decision → Session → (s : List ℕ) → (ifPassed : Result) → Result
following passed q s ifPassed = ifPassed
following (refusal number values) q s ifPassed = ((q, refusal number values, 0), s)

-- what the call k answers and leaves in the slice: the first fault of its tests, or what it leads to
unfoldable pub answered : Call → Session → (a s : List ℕ) → Result
answered k q a s = following (decide (tests k q a (length s))) q s (changed_to (transition k q (held a)) a s)
