-- Every accepted call keeps the record sound, and makes of its fields what its line says. Assumes nothing.
use mathlib.Core.Path.{◌≡◌, refl, sym, subst}
use mathlib.Core.Bool.{true}
use mathlib.Core.List.{List}
use Prim.Native.Nat.{ℕ}
use Rattle.fields.specs.Number.{Bytes}
use Rattle.record_layout.specs.Layout.{active, bank_count, image_count}
use Rattle.record_layout.specs.Rules.{sound}
use Rattle.record_alterations.specs.Fields.{with_crc}
use Rattle.record_alterations.proofs.Stays.{crc_stays}
use Rattle.update_changes.specs.Changed.{changed_by, Names}
use Rattle.update_changes.specs.declared.Change.{Change}
use Rattle.update_changes.specs.declared.Change.TheVariants.{Nothing, Begin, Commit, End, Accept, Exchange}
use Rattle.update_changes.proofs.Banks.{sized, update_in}
use Rattle.update_changes.specs.NewRecord.{update_bank_of, begun_record, committed_record, ended_record, accepted_record, exchanged_record}
use Rattle.proof_kept_sound.specs.Fields.{Fields, fields_of, FieldsAre, fields_after, CallsMake}
use Rattle.proof_kept_sound.specs.Kept.{Kept, Asks, CallsKeepSound}
use Rattle.proof_kept_sound.proofs.Says.{Says, says_crc, crc_agrees}
use Rattle.proof_kept_sound.proofs.Good.{Good, update_differs, good_begun, good_committed, good_ended, good_accepted, good_exchanged}
use Rattle.proof_kept_sound.proofs.Carried.{good_of, banks_stay, images_stay, types_stay, flag_reads, sound_of}
use Rattle.proof_kept_sound.proofs.Calls.{told, begin_says, commit_says, end_says, accept_says, exchange_says}

module _ (r : List ℕ) (small : Bytes r) (e : sound r ≡ true) where
  g : Good (bank_count r) (image_count r) (fields_of r)
  g = good_of r e

  differs : active r ≡ update_bank_of r → ⊥
  differs q = update_differs (bank_count r) (active r) (sized r e).banks_low g.active_low (sym q)

  -- the record with its CRC worked anew
  module _ (x : List ℕ) (f : Fields) (w : Says r (bank_count r) (image_count r) x f) where
    finished : Says r (bank_count r) (image_count r) (with_crc x) f
    finished = says_crc r (bank_count r) (image_count r) (sized r e) x f w

    kept : Good (bank_count r) (image_count r) f → Kept r (with_crc x)
    kept h =
        record {
          is_sound = sound_of r (with_crc x) f finished (sized r e) h e (crc_agrees r (bank_count r) (image_count r) (sized r e) x f w);
          bytes = finished.small;
          long = finished.long;
        }

    reads : FieldsAre r (with_crc x) f
    reads =
        record {
          active_is = finished.active_is;
          previous_is = finished.previous_is;
          state_is = finished.state_is;
          flag_is = flag_reads r (with_crc x) f finished;
          stays = finished.stays;
          banks_is = banks_stay r (with_crc x) f finished;
          images_is = images_stay r (with_crc x) f finished;
          type_is = types_stay r (with_crc x) f finished;
        }

  -- the record that each change makes, before its CRC is worked anew
  record Made (x : Change) : Type 0 where
    before : List ℕ
    is : with_crc before ≡ changed_by x r
    says : Says r (bank_count r) (image_count r) before (fields_after x r (fields_of r))

  made : (x : Change) → Names x r → Made x
  unfolding changed_by begun_record committed_record ended_record accepted_record exchanged_record
  made Nothing h = record { before = r; is = crc_stays r e small; says = told r small (sized r e) }
  made Begin h = record { before = _; is = refl; says = begin_says r small (sized r e) g.active_low (update_bank_of r) (update_in r e) }
  made (Commit i request) h = record { before = _; is = refl; says = commit_says r small (sized r e) g.active_low (update_bank_of r) (update_in r e) i request h }
  made End h = record { before = _; is = refl; says = end_says r small (sized r e) g.active_low (update_bank_of r) (update_in r e) }
  made (Accept i) h = record { before = _; is = refl; says = accept_says r small (sized r e) g.active_low i h }
  made Exchange h = record { before = _; is = refl; says = exchange_says r small (sized r e) g.active_low g.previous_low }

  -- the tests of a call give its image, and fields that the rules ask
  named : (x : Change) → Asks x r → Names x r
  named Nothing h = tt
  named Begin h = tt
  named (Commit i request) h = h.0
  named End h = tt
  named (Accept i) h = h
  named Exchange h = tt

  good : (x : Change) → Asks x r → Good (bank_count r) (image_count r) (fields_after x r (fields_of r))
  good Nothing h = g
  good Begin h = good_begun (bank_count r) (image_count r) (fields_of r) g (update_bank_of r) (update_in r e) differs
  good (Commit i request) h = good_committed (bank_count r) (image_count r) (fields_of r) g i request (update_bank_of r) h.1
  good End h = good_ended (bank_count r) (image_count r) (fields_of r) g (update_bank_of r) (update_in r e)
  good (Accept i) h = good_accepted (bank_count r) (image_count r) (fields_of r) g i
  good Exchange h = good_exchanged (bank_count r) (image_count r) (fields_of r) g h

  all_kept : (x : Change) → Asks x r → Kept r (changed_by x r)
  all_kept x h = let m = made x (named x h) in subst (Kept r) m.is (kept m.before _ m.says (good x h))

  all_made : (x : Change) → Names x r → FieldsAre r (changed_by x r) (fields_after x r (fields_of r))
  all_made x h =
      let m = made x h in
      subst (λ (new : List ℕ). FieldsAre r new (fields_after x r (fields_of r))) m.is (reads m.before _ m.says)

pub kept_sound : CallsKeepSound
kept_sound r small e = all_kept r small e

pub fields_made : CallsMake
fields_made r small e = all_made r small e
