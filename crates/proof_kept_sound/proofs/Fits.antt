-- The session that a call answers fits the record that it makes. Assumes nothing.
use mathlib.Core.Path.{◌≡◌, refl, sym, ap, ◌∙◌}
use mathlib.Core.Bool.{Bool, true, false, cond}
use mathlib.Core.List.{List}
use Prim.Native.Nat.{ℕ, ◌^◌, ◌<◌}
use native.Mathlib.Omega.{arith}
use borrow.Author.Tests.{eq-eqb, ne_eqb, lt-ltb}
use lib.Dec.{eqb}
use lib.Pow.{pow_pos}
use Rattle.fields.specs.Number.{Bytes}
use Rattle.record_layout.specs.Layout.{active, previous, state, bank_count, image_count}
use Rattle.record_layout.specs.Rules.{invalid, valid, accepted_bank, sound}
use Rattle.update_changes.specs.NewRecord.{update_bank_of, marked, completes}
use Rattle.update_changes.specs.Changed.{changed_by, Names}
use Rattle.update_changes.specs.declared.Change.{Change}
use Rattle.update_changes.specs.declared.Change.TheVariants.{Nothing, Begin, Commit, End, Accept, Exchange}
use Rattle.update_changes.proofs.Banks.{sized, update_in, update_low}
use Rattle.update_committed_set.specs.Set.{joined, staged_fits}
use Rattle.update_committed_set.proofs.Fits.{fit_parts}
use Rattle.update_committed_set.proofs.SetLaws.{joined_below}
use Rattle.proof_kept_sound.specs.Fields.{Fields, fields_of, FieldsAre, with_state, all_in, marked_in, fields_after}
use Rattle.proof_kept_sound.specs.Fits.{Stands, Fits, CallsFit}
use Rattle.proof_kept_sound.proofs.Good.{Good, status, update_differs, good_accepted}
use Rattle.proof_kept_sound.proofs.Carried.{good_of, all_in_lem, all_reads}
use Rattle.proof_kept_sound.proofs.Calls.{marked_says}
use Rattle.proof_kept_sound.proofs.Kept.{fields_made}

module _ (r : List ℕ) (small : Bytes r) (e : sound r ≡ true) where
  made : (x : Change) → Names x r → FieldsAre r (changed_by x r) (fields_after x r (fields_of r))
  made = fields_made r small e

  g : Good (bank_count r) (image_count r) (fields_of r)
  g = good_of r e

  -- the record that a change makes, by its fields
  module _ (new : List ℕ) (f : Fields) (w : FieldsAre r new f) where
    stands : (status : ℕ) → f.active_bank < bank_count r → f.states f.active_bank ≡ status
        → Stands new f.active_bank f.previous_bank status
    stands status h is =
        record {
          active_is = w.active_is;
          previous_is = w.previous_is;
          status_is = rw w.active_is (w.state_is f.active_bank (omega (arith, h, (sized r e).banks_high)) ∙ is);
        }

    -- the update bank is the one that is staged, and 255
    staged : (bank set : ℕ) → f.active_bank ≡ active r → bank ≡ update_bank_of r → f.states bank ≡ invalid → set < 2 ^ image_count r
        → staged_fits bank set new ≡ true
    unfolding staged_fits
    staged bank set a b i few =
        let s : state new bank ≡ invalid = w.state_is bank (omega (arith, b, update_low r e)) ∙ i in
        rw (w.banks_is, w.active_is, a, s, w.images_is, eq-eqb bank (update_bank_of r) b) (lt-ltb set (2 ^ image_count r) few)

  -- Accept leaves the flags as marked, whether all are accepted or not
  module _ (i : ℕ) where
    abbrev m : Fields
    m = marked_in i (fields_of r)

    abbrev full : Bool
    full = all_in (image_count r) (active r) m

    abbrev after : Bool → Fields
    after t = cond t (with_state (active r) accepted_bank m) m

    accepted_stands : (new : List ℕ) (t : Bool) → FieldsAre r new (after t) → Good (bank_count r) (image_count r) (after t)
        → Stands new (active r) (previous r) (cond full accepted_bank valid)
    accepted_stands new true w h = stands new _ w _ g.active_low (status (bank_count r) (image_count r) _ h (sized r e).banks_high)
    accepted_stands new false w h = stands new _ w _ g.active_low (status (bank_count r) (image_count r) _ h (sized r e).banks_high)

  fits : (x : Change) → Names x r → Fits x r (changed_by x r)
  fits Nothing h = stands _ _ (made Nothing h) _ g.active_low refl
  fits Begin h = (
    stands _ _ (made Begin h) _ g.active_low
        (rw (ne_eqb (active r) (update_bank_of r) (λ q. update_differs (bank_count r) (active r) (sized r e).banks_low g.active_low (sym q)))),
    staged _ _ (made Begin h) (update_bank_of r) 0 refl refl (rw (eq-eqb (update_bank_of r) (update_bank_of r) refl)) (pow_pos (image_count r)),
  )
  fits (Commit i request) h = (
    stands _ _ (made (Commit i request) h) _ g.active_low refl,
    λ bank set fit.
        let was = fit_parts bank set r fit in
        staged _ _ (made (Commit i request) h) bank (joined i set) refl was.0 was.1 (joined_below i (image_count r) set h was.2),
  )
  fits End h =
      stands _ _ (made End h) _ (update_in r e)
      (rw (eq-eqb (update_bank_of r) (update_bank_of r) refl) (ap (λ (t : Bool). cond t accepted_bank valid) (sym (all_in_lem r (update_bank_of r)))))
  fits (Accept i) h =
      rw (all_reads r (marked i r) (m i) (marked_says r small (sized r e) g.active_low i h) (active r) g.active_low)
      (accepted_stands i (changed_by (Accept i) r) (full i) (made (Accept i) h) (good_accepted (bank_count r) (image_count r) (fields_of r) g i))
  fits Exchange h = stands _ _ (made Exchange h) _ g.previous_low refl

pub calls_fit : CallsFit
calls_fit r small e = fits r small e

-- so Accept's next session, Regular exactly if all are accepted, is what start-up answers in the active bank
pub accept_regular : (r : List ℕ) → Bytes r → sound r ≡ true → (i : ℕ) → i < image_count r
    → let new = changed_by (Accept i) r in eqb (state new (active new)) accepted_bank ≡ completes i r
accept_regular r small e i h = rw (calls_fit r small e (Accept i) h).status_is (go (completes i r))
  where
    go : (t : Bool) → eqb (cond t accepted_bank valid) accepted_bank ≡ t
    go true = refl
    go false = refl
