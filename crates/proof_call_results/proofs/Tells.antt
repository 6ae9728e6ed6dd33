-- What an accepted call tells, of any of the six: its tests found no fault, it lists the stores of the new record, and
-- that record is sound. Assumes nothing.
use mathlib.Core.Path.{◌≡◌, refl, sym, ap, ◌∙◌}
use mathlib.Core.Bool.{true, false, cond, not, ◌&&◌}
use mathlib.Core.List.{List, [], ◌∷◌}
use Prim.Native.Nat.{ℕ, ◌^◌}
use borrow.Author.Tests.{eqb-true, leb-false}
use lib.Dec.{eqb, leb, ltb}
use lib.ListN.{length}
use Rattle.fields.specs.Number.{Bytes}
use Rattle.fields.proofs.Tests.{both}
use Rattle.fields.proofs.Bytes.{take_bytes}
use Rattle.record_layout.specs.Layout.{copy_size, header_size, size, record_of, copy0, previous, state, image_count}
use Rattle.record_layout.specs.Rules.{invalid, accepted_bank, sound}
use Rattle.record_copies.proofs.Reading.{equal_sound}
use Rattle.record_store_lists.specs.Lists.{Changeable}
use Rattle.update_changes.specs.NewRecord.{update_bank_of, image_with}
use Rattle.update_changes.specs.Changed.{Call, begin, commit, end, cancel, accept, select_previous, change_of, new_record}
use Rattle.update_committed_set.specs.Set.{staged_fits}
use Rattle.proof_kept_sound.specs.Kept.{Kept, Asks}
use Rattle.proof_kept_sound.proofs.Kept.{kept_sound}
use Rattle.refusal_order.specs.Decide.{Decision, passed, refusal, decide}
use Rattle.refusal_order.proofs.Decide.{never, passed_first, no_fault, NoFault}
use Rattle.update_admission.specs.Rows.{area_tests}
use Rattle.update_session.specs.declared.Session.{Session}
use Rattle.update_session.specs.Sessions.{staging, kind_of, bank_of, set_of, among}
use Rattle.update_session.specs.Calls.{Result, held, staging_test, common_tests, own_tests, tests, transition, changed_to, following, answered}
use Rattle.update_session.proofs.Answered.{not_false, common_changeable}
use Rattle.proof_call_results.specs.CallResults.{Passed}

-- a Staging session that is not at fault fits the record
pub fits : (q : Session) (r : List ℕ) → (staging_test q r).0 ≡ false → not (among (kind_of q) (staging ∷ [])) ≡ false
    → staged_fits (bank_of q) (set_of q) r ≡ true
fits q r e h = not_false (staged_fits (bank_of q) (set_of q) r) (rw (not_false (among (kind_of q) (staging ∷ [])) h) at e)

-- so the bank being staged is 255
staged : (q : Session) (r : List ℕ) → staged_fits (bank_of q) (set_of q) r ≡ true → state r (update_bank_of r) ≡ invalid
unfolding staged_fits
staged q r f =
    let p = both (eqb (bank_of q) (update_bank_of r)) (eqb (state r (bank_of q)) invalid && ltb (set_of q) (2 ^ image_count r)) f in
    let u = both (eqb (state r (bank_of q)) invalid) (ltb (set_of q) (2 ^ image_count r)) p.1 in
    ap (state r) (sym (eqb-true (bank_of q) (update_bank_of r) p.0)) ∙ eqb-true (state r (bank_of q)) invalid u.0

-- what the tests exclude is all that is asked of the record
asked : (k : Call) (q : Session) (r : List ℕ) → (staging_test q r).0 ≡ false → NoFault (own_tests k q r) → Asks (change_of k r) r
unfolding own_tests change_of
asked begin q r e p = tt
asked (commit g request) q r e p = (leb-false _ _ p.1.0, staged q r (fits q r e p.0))
asked end q r e p = tt
asked cancel q r e p = tt
asked (accept g) q r e p = leb-false _ _ p.1.0
asked select_previous q r e p = eqb-true (state r (previous r)) accepted_bank (not_false _ p.1.0)

pub record Tells (k : Call) (q : Session) (a s : List ℕ) : Type 0 where
  pub change : Changeable a s
  pub is : answered k q a s ≡ changed_to (transition k q (held a)) a s
  pub is_sound : sound (held a) ≡ true
  pub bytes : Bytes (held a)
  pub staging_right : (staging_test q (held a)).0 ≡ false
  pub own_right : NoFault (own_tests k q (held a))
  pub asks : Asks (change_of k (held a)) (held a)
  pub kept : Kept (held a) (new_record k (held a))

went_on : (d : Decision) (q : Session) (s : List ℕ) (x : Result) → Passed (following d q s x) → (passed ≡ d) × (following d q s x ≡ x)
unfolding following
went_on passed q s x e = (refl, refl)
went_on (refusal number values) q s x e = absurd (never number values (sym e))

held_bytes : (a : List ℕ) → Bytes a → Bytes (held a)
unfolding record_of
held_bytes a b =
    let c = copy0 a in take_bytes (cond (leb header_size (size c)) (size c) header_size) c (take_bytes copy_size a b)

pub tells : (k : Call) (q : Session) (a s : List ℕ) → Bytes a → Passed (answered k q a s) → Tells k q a s
unfolding answered tests common_tests new_record
tells k q a s b e =
    let w = went_on (decide (tests k q a (length s))) q s (changed_to (transition k q (held a)) a s) e in
    let p = passed_first (common_tests q a (length s)) (own_tests k q (held a)) w.0 in
    let c : Changeable a s = common_changeable q a s p.0 in
    let f = no_fault (staging_test q (held a) ∷ []) (passed_first (area_tests a (length s)) _ p.0).1 in
    let o = no_fault (own_tests k q (held a)) p.1 in
    let x = asked k q (held a) f.0 o in
    let h = equal_sound a c.equal in
    let y = held_bytes a b in
    record {
      change = c;
      is = w.1;
      is_sound = h;
      bytes = y;
      staging_right = f.0;
      own_right = o;
      asks = x;
      kept = kept_sound (held a) y h (change_of k (held a)) x;
    }
