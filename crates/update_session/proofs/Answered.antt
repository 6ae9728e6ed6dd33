-- What a call knows once its tests found no fault, and what it answers at each way out. Assumes nothing.
use mathlib.Core.Path.{◌≡◌, refl, sym}
use mathlib.Core.Bool.{Bool, true, false, not, ◌&&◌}
use mathlib.Core.List.{List, [], ◌∷◌}
use Prim.Native.Nat.{ℕ, ◌^◌, ◌<◌}
use borrow.Author.Tests.{eqb-true, ltb-false}
use lib.ListN.{length}
use Rattle.fields.proofs.Tests.{both}
use Rattle.fields.proofs.Guid.{same_true, same_refl}
use Rattle.refusals.specs.declared.Refusal.{Refusal}
use Rattle.record_layout.specs.Layout.{area_size, record_of, copy0, copy1, image_count}
use Rattle.record_layout.specs.Rules.{sound_copy}
use Rattle.record_copies.specs.Copies.{records_equal, sound_and_equal}
use Rattle.record_stores.proofs.Laid.{with_list_none}
use Rattle.record_store_lists.specs.Lists.{Changeable, AtFront}
use Rattle.record_store_lists.specs.ChangeStores.{copy_stores, change_stores}
use Rattle.update_committed_set.specs.Set.{staged_fits}
use Rattle.update_committed_set.proofs.Fits.{set_below}
use Rattle.refusal_order.specs.Decide.{passed, refused, decide}
use Rattle.refusal_order.proofs.Decide.{refused_before, passed_before, passed_first, no_fault}
use Rattle.update_session.specs.declared.Session.{Session}
use Rattle.update_session.specs.declared.Session.TheVariants.{Staging}
use Rattle.update_session.specs.Outcome.{Outcome, refused_with, passed_with}
use Rattle.update_changes.specs.Changed.{Call}
use Rattle.update_admission.specs.Rows.{repair_tests, area_tests}
use Rattle.update_session.specs.Calls.{Result, held, staging_test, common_tests, own_tests, tests, transition}
use Rattle.update_session.specs.Calls.{changed_to, following, answered}

pub not_false : (b : Bool) → not b ≡ false → b ≡ true
not_false true e = refl
not_false false e = sym e

-- both copies of an area hold the record
abbrev pub Held : List ℕ → Type 0
Held a = (length a ≡ area_size) × (sound_and_equal a ≡ true)

-- the tests of the area found no fault
pub area_held : (a : List ℕ) (n : ℕ) → passed ≡ decide (area_tests a n) → Held a
unfolding area_tests repair_tests
area_held a n e =
    let p = no_fault (area_tests a n) e in (eqb-true _ _ (not_false _ p.0), not_false _ p.1.1.1.0)

-- those of the session neither
pub common_area : (q : Session) (a : List ℕ) (n : ℕ) → passed ≡ decide (common_tests q a n) → passed ≡ decide (area_tests a n)
unfolding common_tests
common_area q a n e = (passed_first (area_tests a n) _ e).0

pub common_held : (q : Session) (a : List ℕ) (n : ℕ) → passed ≡ decide (common_tests q a n) → Held a
common_held q a n e = area_held a n (common_area q a n e)

pub common_changeable : (q : Session) (a s : List ℕ) → passed ≡ decide (common_tests q a (length s)) → Changeable a s
unfolding area_tests repair_tests
common_changeable q a s e =
    let h = common_held q a (length s) e in
    let p = no_fault (area_tests a (length s)) (common_area q a (length s) e) in
    record { long = h.0; equal = h.1; room = ltb-false _ _ p.1.0 }

-- a Staging session's set has no bit past the images
pub common_below : (q : Session) (bank set : ℕ) (a : List ℕ) (n : ℕ) → q ≡ Staging bank set
    → passed ≡ decide (common_tests q a n) → set < 2 ^ image_count (held a)
unfolding common_tests
common_below q bank set a n t e =
    let p = no_fault (staging_test q (held a) ∷ []) (passed_first (area_tests a n) _ e).1 in
    set_below bank set (held a) (not_false (staged_fits bank set (held a)) (rw t at p.0))

-- the ways out of a call
module _ (k : Call) (q : Session) (a s : List ℕ) where
  pub refused_first : (why : Refusal) → refused why ≡ decide (common_tests q a (length s)) → (refused_with q why, s) ≡ answered k q a s
  unfolding answered following tests
  refused_first why e = rw (← refused_before (common_tests q a (length s)) (own_tests k q (held a)) _ _ e)

  pub refused_own : (why : Refusal) → passed ≡ decide (common_tests q a (length s)) → refused why ≡ decide (own_tests k q (held a))
      → (refused_with q why, s) ≡ answered k q a s
  unfolding answered following tests
  refused_own why e o = rw (← passed_before (common_tests q a (length s)) (own_tests k q (held a)) _ e o)

  pub accepted_own : (x : Result) (to : Session × List ℕ) → passed ≡ decide (common_tests q a (length s))
      → passed ≡ decide (own_tests k q (held a)) → to ≡ transition k q (held a)
      → x ≡ changed_to to a s → x ≡ answered k q a s
  unfolding answered following tests
  accepted_own x to e o t h = rw (← passed_before (common_tests q a (length s)) (own_tests k q (held a)) _ e o, ← t) h

-- the stores of a change are listed
pub listed : (o : Outcome) (next : Session) (a s z made new : List ℕ) (n : ℕ) → o ≡ passed_with next n → made ≡ new
    → AtFront n (change_stores a made) s z
    → (o, z) ≡ changed_to (next, new) a s
unfolding changed_to
listed o next a s z made new n p e l = rw (p, l.count, l.lists, e)

-- Cancel: a new record that is the old one takes no stores
equal_records : (a : List ℕ) → sound_and_equal a ≡ true → record_of (copy1 a) ≡ record_of (copy0 a)
unfolding sound_and_equal records_equal
equal_records a e =
    sym (same_true (record_of (copy0 a)) (record_of (copy1 a)) (both (sound_copy (copy0 a) && sound_copy (copy1 a)) (records_equal a) e).1)

nothing_to_store : (a : List ℕ) → sound_and_equal a ≡ true → change_stores a (held a) ≡ []
unfolding change_stores copy_stores
nothing_to_store a e = rw (equal_records a e, same_refl (record_of (copy0 a)))

pub unchanged : (next : Session) (a s : List ℕ) → sound_and_equal a ≡ true → (passed_with next 0, s) ≡ changed_to (next, held a) a s
unfolding changed_to
unchanged next a s e = rw (nothing_to_store a e, with_list_none s)
