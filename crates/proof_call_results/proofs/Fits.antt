-- The session that an accepted call answers fits the record that it makes (specs/CallResults.antt). Assumes nothing.
use mathlib.Core.Path.{◌≡◌, refl, sym, ap, ◌∙◌}
use mathlib.Core.Bool.{Bool, true, false, cond}
use mathlib.Core.List.{List, [], ◌∷◌}
use Prim.Native.Nat.{ℕ}
use borrow.Author.Tests.{eq-eqb, lt-leb}
use lib.Dec.{eqb}
use Rattle.record_layout.specs.Layout.{active, previous, state}
use Rattle.record_layout.specs.Rules.{valid, accepted_bank, all_accepted, sound}
use Rattle.record_layout.proofs.Sound.{sound_named}
use Rattle.refusal_order.specs.Decide.{decide, gives, reply}
use Rattle.refusal_order.proofs.Decide.{NoFault}
use Rattle.update_changes.specs.NewRecord.{update_bank_of, image_with, marked}
use Rattle.update_changes.specs.Changed.{Call, begin, commit, end, cancel, accept, select_previous, change_of, new_record, Names}
use Rattle.proof_kept_sound.specs.Kept.{Asks}
use Rattle.proof_kept_sound.specs.Fits.{Stands}
use Rattle.proof_kept_sound.specs.Fits as made
use Rattle.proof_kept_sound.proofs.Fits.{calls_fit}
use Rattle.proof_kept_sound.proofs.Kept.{fields_made}
use Rattle.update_session.specs.declared.Session.{Session}
use Rattle.update_session.specs.declared.Session.TheVariants.{Regular, Trial}
use Rattle.update_session.specs.Calls.{held, staging_test, own_tests, after_accept, next_session}
use Rattle.update_start_up.specs.StartUp.{started_session, started_from}
use Rattle.proof_call_results.specs.CallResults.{started_after, CallResults}
use Rattle.proof_call_results.proofs.Tells.{fits, Tells, tells}

-- start-up in the active bank, by that bank's state
abbrev by_status : ℕ → Session
by_status status = cond (eqb status accepted_bank) Regular Trial

own_session : (r : List ℕ) → started_session r (active r) ≡ by_status (state r (active r))
unfolding started_session
own_session r = rw (eq-eqb (active r) (active r) refl)

in_active : (r : List ℕ) (status : ℕ) → sound r ≡ true → state r (active r) ≡ status → started_from r (active r) ≡ gives (by_status status)
unfolding started_from decide reply
in_active r status h e = rw (lt-leb _ _ (sound_named r h).0, own_session r, e)

two_states : (b : Bool) → by_status (cond b accepted_bank valid) ≡ cond b Regular Trial
two_states true = refl
two_states false = refl

-- a change that can be made names an image that there is
names : (k : Call) (r : List ℕ) → Asks (change_of k r) r → Names (change_of k r) r
unfolding change_of
names begin r x = tt
names (commit g request) r x = x.0
names end r x = tt
names cancel r x = tt
names (accept g) r x = x
names select_previous r x = tt

-- no session but Staging meets 24
not_staging : (b : Bool) (new : List ℕ) → (staging_test (cond b Regular Trial) new).0 ≡ false
not_staging true new = refl
not_staging false new = refl

module _ (q : Session) (r new : List ℕ) where
  right : (k : Call) → (staging_test q r).0 ≡ false → NoFault (own_tests k q r)
      → made.Fits (change_of k r) r new → (staging_test (next_session k q r) new).0 ≡ false
  unfolding change_of next_session own_tests after_accept
  right begin e p f = rw f.1
  right (commit g request) e p f = rw (f.1 _ _ (fits q r e p.0))
  right end e p f = refl
  right cancel e p f = refl
  right (accept g) e p f = not_staging (all_accepted (marked (image_with g r) r) (active r)) new
  right select_previous e p f = refl

  starting : (k : Call) → sound new ≡ true → Asks (change_of k r) r → made.Fits (change_of k r) r new
      → started_from new (active new) ≡ gives (started_after k r)
  unfolding change_of after_accept
  starting begin h x f = in_active new _ h f.0.status_is ∙ ap gives (sym (own_session r))
  starting (commit g request) h x f = in_active new _ h f.0.status_is ∙ ap gives (sym (own_session r))
  starting end h x f = in_active new _ h f.status_is ∙ ap gives (two_states (all_accepted r (update_bank_of r)))
  starting cancel h x f = in_active new _ h f.status_is ∙ ap gives (sym (own_session r))
  starting (accept g) h x f =
      in_active new _ h f.status_is ∙ ap gives (two_states (all_accepted (marked (image_with g r) r) (active r)))
  starting select_previous h x f = in_active new _ h (f.status_is ∙ x)

pub call_results : CallResults
unfolding new_record
call_results k q a s b e =
    let p = tells k q a s b e in
    let r = held a in
    let f = calls_fit r p.bytes p.is_sound (change_of k r) (names k r p.asks) in
    record {
      kept = p.kept;
      makes = fields_made r p.bytes p.is_sound (change_of k r) (names k r p.asks);
      no_fault = right q r _ k p.staging_right p.own_right f;
      starts = starting q r _ k p.kept.is_sound p.asks f;
    }
