-- What holds after a call: a bank that is being staged stays so, and accepting an accepted image changes nothing.
-- Assumes nothing.
use mathlib.Core.Path.{◌≡◌, refl, sym, ap, subst, ◌∙◌}
use mathlib.Core.Bool.{Bool, true, false, cond}
use mathlib.Core.List.{List}
use Prim.Native.Nat.{ℕ, ◌+◌, ◌<◌}
use native.Mathlib.Omega.{arith}
use borrow.Author.Tests.{eq-eqb}
use Rattle.fields.specs.Number.{Bytes, bytes, put}
use Rattle.record_layout.specs.Layout.{active, state, bank_count, image_count, accepted_at, accepted}
use Rattle.record_layout.specs.Rules.{invalid, valid, accepted_bank, all_accepted, sound}
use Rattle.record_layout.proofs.Sizes.{bank_in}
use Rattle.record_alterations.specs.Fields.{set_state, set_accepted, with_crc}
use Rattle.record_layout.proofs.Sound.{sound_long}
use Rattle.record_alterations.proofs.Stays.{word_back, crc_stays}
use Rattle.update_changes.specs.NewRecord.{update_bank_of, marked, accepted_record}
use Rattle.update_changes.specs.Changed.{changed_by}
use Rattle.update_changes.specs.declared.Change.TheVariants.{Begin, Commit}
use Rattle.update_changes.proofs.Banks.{sized, update_low, active_low}
use Rattle.update_changes.proofs.Words.{put_byte_back}
use Rattle.proof_kept_sound.specs.Fields.{Fields, fields_of, FieldsAre}
use Rattle.proof_kept_sound.specs.Kept.{Follows, CallsFollow}
use Rattle.proof_kept_sound.proofs.Good.{Good, status}
use Rattle.proof_kept_sound.proofs.Carried.{good_of, all_in_lem}
use Rattle.proof_kept_sound.proofs.Kept.{fields_made}

module _ (r : List ℕ) (small : Bytes r) (e : sound r ≡ true) where
  good : Good (bank_count r) (image_count r) (fields_of r)
  good = good_of r e

  -- the state is there already, where all images are accepted
  state_none : (t : Bool) → all_accepted r (active r) ≡ t → cond t (set_state (active r) accepted_bank r) r ≡ r
  unfolding set_state
  state_none false h = refl
  state_none true h =
      put_byte_back r (24 + active r) accepted_bank (omega (arith, sound_long r e, active_low r e))
      (status (bank_count r) (image_count r) (fields_of r) good (sized r e).banks_high ∙ ap (λ (t : Bool). cond t accepted_bank valid) (sym (all_in_lem r (active r)) ∙ h))

  again : (i : ℕ) → i < image_count r → accepted r i (active r) ≡ 1 → accepted_record i r ≡ r
  unfolding accepted_record marked set_accepted
  again i hi h =
      let at = accepted_at (bank_count r) i (active r) in
      let fits = bank_in r (bank_count r) (image_count r) i (active r) (sized r e) hi good.active_low in
      let m : put r at (bytes 4 1) ≡ r = subst (λ (v : ℕ). put r at (bytes 4 v) ≡ r) h (word_back r at small (omega (arith, fits))) in
      rw m (ap with_crc (state_none (all_accepted r (active r)) refl) ∙ crc_stays r e small)

  staged_in : (new : List ℕ) (f : Fields) → FieldsAre r new f → f.active_bank ≡ active r → f.states (update_bank_of r) ≡ invalid
      → state new (update_bank_of new) ≡ invalid
  staged_in new f w a h =
      rw (w.banks_is, w.active_is, a, w.state_is (update_bank_of r) (update_low r e)) h

  follows : Follows r
  unfolding changed_by
  follows =
      let made = fields_made r small e in
      record {
        begin_stages = staged_in (changed_by Begin r) _ (made Begin tt) refl (rw (eq-eqb (update_bank_of r) (update_bank_of r) refl));
        commit_stages = λ i request hi staged. staged_in (changed_by (Commit i request) r) _ (made (Commit i request) hi) refl staged;
        accept_again = again;
      }

pub calls_follow : CallsFollow
calls_follow r small e = follows r small e
