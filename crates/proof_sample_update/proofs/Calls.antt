-- The conditions can be met, and the lists are not all empty: an update from the record of the report's example
-- (two banks, one image, all accepted, active 0, previous 1). Begin; Commit, Cancel and End on what it leaves; Accept
-- and Select previous on what End leaves, where the image is not accepted yet; and a repair wherever that Begin is cut.
-- Assumes nothing.
use mathlib.Core.Path.{◌≡◌, refl, sym, ap, ◌∙◌}
use mathlib.Core.Logic.{◌≢◌}
use mathlib.Core.Bool.{false}
use mathlib.Core.List.{List, []}
use Prim.Native.Nat.{ℕ, ◌≤◌}
use native.Mathlib.Omega.{arith}
use borrow.Author.Tests.{eq-eqb, le-ltb}
use lib.Count.{ones_in}
use lib.ListN.{length, replicate, length-replicate}
use Rattle.fields.specs.Number.{Bytes, le, bytes, put}
use Rattle.fields.specs.Guid.{guid, same}
use Rattle.record_layout.specs.Every.{least, below}
use Rattle.record_layout.specs.Layout.{area_size, active, state}
use Rattle.record_layout.specs.Layout as layout
use Rattle.record_layout.specs.Rules.{all_accepted}
use Rattle.record_stores.specs.Stores.{store_numbers}
use Rattle.record_alterations.specs.Fields.{set_active, set_previous, set_state, set_accepted, with_crc}
use Rattle.record_store_lists.specs.ChangeStores.{repair_stores}
use Rattle.refusal_order.specs.Decide.{passed, decide, gives}
use Rattle.update_admission.specs.Rows.{repair_tests, area_tests}
use Rattle.update_changes.specs.NewRecord.{image_with, unaccepted_below, begun_record, committed_record, ended_record, marked, accepted_record, exchanged_record}
use Rattle.update_changes.specs.Changed.{Call, begin, commit, end, cancel, accept, select_previous, change_of, changed_by, new_record}
use Rattle.update_committed_set.specs.Set.{missing, staged_fits}
use Rattle.update_session.specs.declared.Session.{Session}
use Rattle.update_session.specs.declared.Session.TheVariants.{Regular, Staging, Trial}
use Rattle.update_session.specs.Calls.{staging_test, common_tests, own_tests, tests, changed_to, following, answered}
use Rattle.update_repair.specs.Repair.{repaired_by, repaired}
use Rattle.proof_format_cuts.specs.Area.{after_cut}
use Rattle.proof_record_cuts.specs.Cuts.{BothHold}
use Rattle.proof_record_cuts.proofs.Cuts.{record_cuts}
use Rattle.proof_sample_update.proofs.Record.{sample_record, sample_area, sample_long, sample_area_bytes, sample_both}
use Rattle.proof_call_results.specs.CallResults.{Passed}
use Rattle.proof_history.specs.History.{list_of, run}
use Rattle.proof_power_cuts.specs.PowerCuts.{cut_call, pair_limit, Survives}
use Rattle.proof_power_cuts.proofs.Lists.{Good, is_sound}
use Rattle.proof_power_cuts.proofs.PowerCuts.{power_cuts}

abbrev pub slice : List ℕ
slice = replicate store_numbers 0

slice_long : store_numbers ≤ length slice
slice_long = omega (arith, length-replicate {A = ℕ} store_numbers 0)

-- the type GUID of the one image
abbrev pub zero_guid : List ℕ
zero_guid = replicate 16 0

-- ---- an area with the record r in both copies
record Holding (a r : List ℕ) : Type 0 where
  long : length a ≡ area_size
  is_bytes : Bytes a
  holds : BothHold a r

-- the call is accepted there, and lists a store
pub record Taken (k : Call) (q : Session) (a : List ℕ) : Type 0 where
  pub taken : Passed (answered k q a slice)
  pub lists : list_of (answered k q a slice) ≢ []

-- what all of its stores leave
unfoldable pub after : (k : Call) (q : Session) (a : List ℕ) → List ℕ
after k q a = after_cut a (list_of (answered k q a slice)) pair_limit

module _ (k : Call) (q : Session) (a r : List ℕ) (h : Holding a r) (fits : (staging_test q r).0 ≡ false) (own : decide (own_tests k q r) ≡ passed) where
  takes : Passed (answered k q a slice)
  unfolding answered tests common_tests area_tests repair_tests decide following changed_to
  takes =
      rw (
        eq-eqb (length a) area_size h.long,
        le-ltb (length slice) store_numbers slice_long,
        h.holds.sound0,
        record_cuts.equal a r h.holds,
        h.holds.is0,
        fits,
        own,
      )

  survives : (n : ℕ) → Survives a r (new_record k r) (list_of (answered k q a slice)) n (cut_call k q a slice n) []
  survives n = rw h.holds.is0 at (power_cuts.change k q a slice n [] h.is_bytes takes)

  -- a list of no store would leave the old record, which is not the new one
  taken_with : r ≢ new_record k r → Taken k q a
  taken_with other =
      record {
        taken = takes;
        lists = λ e. other (sym ((survives 0).first refl).is ∙ ((survives 0).last (omega (arith, ap length e))).is);
      }

  cut_good : (n : ℕ) → Good (after_cut a (list_of (answered k q a slice)) n)
  unfolding run
  cut_good n =
      let l = (survives n).lasts tt in
      let g : Good (cut_call k q a slice n).area = record { long = l.long; bytes = l.bytes; one_sound = l.reads.one_sound } in
      rw (survives n).left at g

  leaves : Holding (after k q a) (new_record k r)
  unfolding after
  leaves =
      let g : Good (after_cut a (list_of (answered k q a slice)) pair_limit) = cut_good pair_limit in
      record { long = g.long; is_bytes = g.bytes; holds = (survives pair_limit).after_all (survives pair_limit).rules.few }

-- ---- the records: that which Begin makes, with bank 1 255 and its image unaccepted; and that which End makes of it,
-- with bank 1 254 and active
unfoldable staged_record : List ℕ
staged_record = begun_record sample_record

unfoldable trial_record : List ℕ
trial_record = ended_record staged_record

-- a field that differs: 252 before and 255 after, or 0 before and 1 after
differ : (f : List ℕ → ℕ) (r new : List ℕ) (x y : ℕ) → f r ≡ x → f new ≡ y → x ≢ y → r ≢ new
differ f r new x y e g h z = h (sym e ∙ ap f z ∙ g)

module _ (a : List ℕ) (h : Holding a sample_record) where
  begins : Taken begin Regular a
  unfolding own_tests decide new_record change_of changed_by begun_record unaccepted_below set_state set_accepted with_crc put bytes sample_record le
  begins =
      taken_with begin Regular a sample_record h refl refl
      (differ (λ r. state r 1) sample_record (new_record begin sample_record) 252 255 refl refl (λ e. omega arith))

  staged : Holding (after begin Regular a) staged_record
  unfolding own_tests decide new_record change_of changed_by staged_record
  staged = leaves begin Regular a sample_record h refl refl

module _ (a : List ℕ) (h : Holding a staged_record) where
  fits_staged : (staging_test (Staging 1 0) staged_record).0 ≡ false
  unfolding staged_fits staged_record begun_record unaccepted_below set_state set_accepted with_crc put bytes sample_record le
  fits_staged = refl

  fits_full : (staging_test (Staging 1 1) staged_record).0 ≡ false
  unfolding staged_fits staged_record begun_record unaccepted_below set_state set_accepted with_crc put bytes sample_record le
  fits_full = refl

  none_missing : decide (own_tests end (Staging 1 1) staged_record) ≡ passed
  unfolding own_tests decide missing ones_in staged_record begun_record unaccepted_below set_state set_accepted with_crc put bytes sample_record le
  none_missing = refl

  commits : Taken (commit zero_guid 0) (Staging 1 0) a
  unfolding own_tests decide new_record change_of changed_by image_with least guid same committed_record staged_record begun_record unaccepted_below set_state
      set_accepted with_crc put bytes sample_record le
  commits =
      taken_with (commit zero_guid 0) (Staging 1 0) a staged_record h fits_staged refl
      (differ (λ r. layout.accepted r 0 1) staged_record (new_record (commit zero_guid 0) staged_record) 0 1 refl refl (λ e. omega arith))

  cancels : Passed (answered cancel (Staging 1 0) a slice)
  unfolding own_tests decide
  cancels = takes cancel (Staging 1 0) a staged_record h fits_staged refl

  ends : Taken end (Staging 1 1) a
  unfolding new_record change_of changed_by ended_record all_accepted below set_active set_previous staged_record begun_record unaccepted_below set_state
      set_accepted with_crc put bytes sample_record le
  ends =
      taken_with end (Staging 1 1) a staged_record h fits_full none_missing
      (differ (λ r. active r) staged_record (new_record end staged_record) 0 1 refl refl (λ e. omega arith))

  tried : Holding (after end (Staging 1 1) a) trial_record
  unfolding new_record change_of changed_by trial_record
  tried = leaves end (Staging 1 1) a staged_record h fits_full none_missing

module _ (a : List ℕ) (h : Holding a trial_record) where
  accepts : Taken (accept zero_guid) Trial a
  unfolding own_tests decide new_record change_of changed_by image_with least guid same accepted_record marked trial_record ended_record all_accepted below
      set_active set_previous staged_record begun_record unaccepted_below set_state set_accepted with_crc put bytes sample_record le
  accepts =
      taken_with (accept zero_guid) Trial a trial_record h refl refl
      (differ (λ r. layout.accepted r 0 1) trial_record (new_record (accept zero_guid) trial_record) 0 1 refl refl (λ e. omega arith))

  selects : Taken select_previous Trial a
  unfolding own_tests decide new_record change_of changed_by exchanged_record trial_record ended_record all_accepted below
      set_active set_previous staged_record begun_record unaccepted_below set_state set_accepted with_crc put bytes sample_record le
  selects =
      taken_with select_previous Trial a trial_record h refl refl
      (differ (λ r. active r) trial_record (new_record select_previous trial_record) 1 0 refl refl (λ e. omega arith))

-- ---- there are such areas
abbrev pub staged_area : List ℕ
staged_area = after begin Regular sample_area

abbrev pub trial_area : List ℕ
trial_area = after end (Staging 1 1) staged_area

sample_holding : Holding sample_area sample_record
sample_holding = record { long = sample_long; is_bytes = sample_area_bytes; holds = sample_both }

staged_holding : Holding staged_area staged_record
staged_holding = staged sample_area sample_holding

-- that Begin cut after n of its stores
unfoldable pub cut_begin : ℕ → List ℕ
cut_begin n = after_cut sample_area (list_of (answered begin Regular sample_area slice)) n

begin_good : (n : ℕ) → Good (cut_begin n)
unfolding cut_begin own_tests decide
begin_good n = cut_good begin Regular sample_area sample_record sample_holding refl refl n

mends : (a s : List ℕ) → Good a → store_numbers ≤ length s → (repaired a s).0 ≡ gives (length (repair_stores a))
unfolding repaired repair_tests decide repaired_by
mends a s g h = rw (eq-eqb (length a) area_size g.long, le-ltb (length s) store_numbers h, is_sound a g.one_sound)

-- each call is accepted somewhere, and a repair after that Begin wherever it is cut
pub record EachPasses : Type 0 where
  pub begin_taken : Taken begin Regular sample_area
  pub commit_taken : Taken (commit zero_guid 0) (Staging 1 0) staged_area
  pub cancel_taken : Passed (answered cancel (Staging 1 0) staged_area slice)
  pub end_taken : Taken end (Staging 1 1) staged_area
  pub accept_taken : Taken (accept zero_guid) Trial trial_area
  pub select_taken : Taken select_previous Trial trial_area
  pub repair_taken : (n : ℕ) → (repaired (cut_begin n) slice).0 ≡ gives (length (repair_stores (cut_begin n)))

pub each_passes : EachPasses
each_passes =
    record {
      begin_taken = begins sample_area sample_holding;
      commit_taken = commits staged_area staged_holding;
      cancel_taken = cancels staged_area staged_holding;
      end_taken = ends staged_area staged_holding;
      accept_taken = accepts trial_area (tried staged_area staged_holding);
      select_taken = selects trial_area (tried staged_area staged_holding);
      repair_taken = λ n. mends (cut_begin n) slice (begin_good n) slice_long;
    }
