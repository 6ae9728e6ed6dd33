-- The alteration of each change makes its record. Assumes nothing.
use mathlib.Core.Path.{◌≡◌, refl, sym, ap, ◌∙◌}
use mathlib.Core.Bool.{Bool, true, false, cond}
use mathlib.Core.Logic.{inl, inr, ⊎_elim}
use mathlib.Core.List.{List, [], ◌∷◌}
use Prim.Native.Nat.{ℕ, zero, suc, ◌+◌, ◌≤◌, ◌<◌}
use native.Mathlib.Nat.{add-zero, zero-add}
use native.Mathlib.Omega.{arith}
use lib.Dec.{eqb}
use lib.ListN.{length}
use Rattle.fields.specs.Number.{Bytes, le, bytes, put}
use Rattle.fields.proofs.Number.{length_bytes}
use Rattle.fields.proofs.Put.{put_length, put_outside}
use Rattle.fields.proofs.Bytes.{put_bytes}
use Rattle.record_layout.specs.Layout.{active, previous, bank_count, image_count, accepted_at}
use Rattle.record_layout.specs.Rules.{invalid, valid, accepted_bank, all_accepted, sound}
use Rattle.record_layout.proofs.Sound.{sound_long, sound_named}
use Rattle.record_alterations.specs.declared.Alteration.{Alteration}
use Rattle.record_alterations.specs.Fields.{set_active, set_previous, set_state, set_accepted, with_crc}
use Rattle.record_alterations.specs.Altered.{flagged, altered_by}
use Rattle.record_alterations.proofs.Stays.{word_back}
use Rattle.update_changes.specs.NewRecord.{update_bank_of, unaccepted_below, begun_record, committed_record, ended_record, marked, accepted_record, exchanged_record}
use Rattle.update_changes.proofs.Words.{put_word, put_swap}
use Rattle.update_changes.proofs.Banks.{sized, banks_few, update_in, update_low, active_low}
use Rattle.update_changes.proofs.Setting.{accepted_in}
use Rattle.update_alterations.specs.Makes.{Makes, with_full}

-- ---- the accepted words that are flagged
flagged_first : (n b : ℕ) (r : List ℕ) → flagged n 0 b 0 r ≡ unaccepted_below n b r
unfolding flagged unaccepted_below
flagged_first zero b r = refl
flagged_first (suc n) b r = rw (zero-add n, flagged_first n b r)

flagged_one : (i b flag : ℕ) (r : List ℕ) → flagged 1 i b flag r ≡ set_accepted i b flag r
unfolding flagged
flagged_one i b flag r = rw (add-zero i)

flagged_none : (i b flag : ℕ) (r : List ℕ) → flagged 0 i b flag r ≡ r
unfolding flagged
flagged_none i b flag r = refl

-- an alteration by its words
abbrev alteration : (active previous states bank first count flag : ℕ) → Alteration
alteration a p w b f n v = record { active = a; previous = p; states = w; bank = b; first = f; count = n; flag = v }

module _ (r : List ℕ) (e : sound r ≡ true) (bs : Bytes r) where
  abbrev u : ℕ
  u = update_bank_of r

  -- ---- the header's words
  states_kept : put r 24 (bytes 4 (le 4 r 24)) ≡ r
  states_kept = word_back r 24 bs (omega (arith, sound_long r e))

  states_put : (b s : ℕ) → b < 4 → s < 256 → put r 24 (bytes 4 (le 4 (set_state b s r) 24)) ≡ set_state b s r
  unfolding set_state
  states_put b s k ls =
      put_word r (put r (24 + b) (s ∷ [])) 24 (put_bytes r (24 + b) (s ∷ []) bs one) (put_length r (24 + b) (s ∷ []) fits) (omega (arith, sound_long r e))
      (λ i o. put_outside r (24 + b) (s ∷ []) fits i (⊎_elim (λ lt. inl (omega arith)) (λ gt. inr (omega arith)) o))
    where
      fits : 24 + b + length (s ∷ []) ≤ length r
      fits = omega (arith, sound_long r e)

      one : Bytes (s ∷ [])
      one zero = ls
      one (suc i) = omega arith

  -- the states' word of l, with active and previous as they were
  kept : (l : List ℕ) → put r 24 (bytes 4 (le 4 l 24)) ≡ l
      → put (set_previous (previous r) (set_active (active r) r)) 24 (bytes 4 (le 4 l 24)) ≡ l
  unfolding set_active set_previous
  kept l h = rw (word_back r 8 bs (omega (arith, sound_long r e)), word_back r 12 bs (omega (arith, sound_long r e))) h

  -- and anew
  named : (a p : ℕ) (l : List ℕ) → put r 24 (bytes 4 (le 4 l 24)) ≡ l
      → put (set_previous p (set_active a r)) 24 (bytes 4 (le 4 l 24)) ≡ set_active a (set_previous p l)
  unfolding set_active set_previous
  named a p l h =
      let A = bytes 4 a in
      let P = bytes 4 p in
      let W = bytes 4 (le 4 l 24) in
      let la = length_bytes 4 a in
      let lp = length_bytes 4 p in
      let lw = length_bytes 4 (le 4 l 24) in
      let long = sound_long r e in
      let na = put_length r 8 A (omega arith) in
      let nw = put_length r 24 W (omega arith) in
      sym (put_swap (put r 8 A) 12 24 P W (omega arith) (omega arith))
      ∙ ap (λ (x : List ℕ). put x 12 P) (sym (put_swap r 8 24 A W (omega arith) (omega arith)))
      ∙ sym (put_swap (put r 24 W) 8 12 A P (omega arith) (omega arith))
      ∙ ap (λ (x : List ℕ). put (put x 12 P) 8 A) h

  -- ---- the record that an alteration makes: its header's words are those of l, and l flagged is m
  made : (x : Alteration) (l m : List ℕ)
      → put (set_previous x.previous (set_active x.active r)) 24 (bytes 4 x.states) ≡ l
      → flagged x.count x.first x.bank x.flag l ≡ m
      → x.bank < bank_count r
      → x.first + x.count ≤ image_count r
      → Makes x r (with_crc m)
  unfolding altered_by
  made x l m p q b i = record { new_is = ap with_crc (rw p q); within = record { bank = b; images = i } }

  pub begin_makes : Makes (alteration (active r) (previous r) (le 4 (set_state u invalid r) 24) u 0 (image_count r) 0) r (begun_record r)
  unfolding begun_record
  begin_makes =
      let l = set_state u invalid r in
      made _ l _ (kept l (states_put u invalid (update_low r e) (omega arith))) (flagged_first (image_count r) u l) (update_in r e)
      (omega arith)

  pub commit_makes : (i request : ℕ) → i < image_count r
      → Makes (alteration (active r) (previous r) (le 4 r 24) u i 1 (cond (eqb request 0) 1 0)) r (committed_record i request r)
  unfolding committed_record
  commit_makes i request h =
      made _ r _ (kept r states_kept) (flagged_one i u (cond (eqb request 0) 1 0) r) (update_in r e) (omega arith)

  -- the bank's state after End
  abbrev ended : ℕ
  ended = cond (all_accepted r u) accepted_bank valid

  pub end_makes : Makes (alteration u (active r) (le 4 (set_state u ended r) 24) 0 0 0 0) r (ended_record r)
  unfolding ended_record
  end_makes =
      made _ _ _ (named u (active r) (set_state u ended r) (states_put u ended (update_low r e) (low (all_accepted r u))))
      (flagged_none 0 0 0 _) (omega (arith, (banks_few r e).0)) (omega arith)
    where
      low : (all : Bool) → cond all accepted_bank valid < 256
      low true = omega arith
      low false = omega arith

  pub exchange_makes : Makes (alteration (previous r) (active r) (le 4 r 24) 0 0 0 0) r (exchanged_record r)
  unfolding exchanged_record
  exchange_makes =
      made _ _ _ (named (previous r) (active r) r states_kept) (flagged_none 0 0 0 _) (omega (arith, (banks_few r e).0)) (omega arith)

  module _ (i : ℕ) (hi : i < image_count r) where
    -- a bank's state set before an image is marked there, or after
    state_swap : (s n : ℕ) → n ≡ bank_count r → put (set_state (active r) s r) (accepted_at n i (active r)) (bytes 4 1) ≡ set_state (active r) s (marked i r)
    unfolding set_state marked set_accepted
    state_swap s n q =
        let b = active r in
        let low = active_low r e in
        rw q
        (sym
        (put_swap r (24 + b) (accepted_at (bank_count r) i b) (s ∷ []) (bytes 4 1) (omega arith)
        (rw (length_bytes 4 1) (accepted_in r (bank_count r) (image_count r) (sized r e) i b 1 hi (sound_named r e).0))))

    mark_full : (all : Bool)
        → set_accepted i (active r) 1 (cond all (set_state (active r) accepted_bank r) r)
        ≡ cond all (set_state (active r) accepted_bank (marked i r)) (marked i r)
    unfolding marked set_accepted set_state
    mark_full true =
        state_swap accepted_bank (bank_count (put r (24 + active r) (accepted_bank ∷ [])))
        (put_outside r (24 + active r) (accepted_bank ∷ []) (omega (arith, sound_long r e, active_low r e)) 32 (inr (omega (arith, active_low r e))))
    mark_full false = refl

    put_full : (all : Bool)
        → let l = cond all (set_state (active r) accepted_bank r) r in put r 24 (bytes 4 (le 4 l 24)) ≡ l
    put_full true = states_put (active r) accepted_bank (active_low r e) (omega arith)
    put_full false = states_kept

    pub accept_makes : Makes (alteration (active r) (previous r) (le 4 (with_full i r) 24) (active r) i 1 1) r (accepted_record i r)
    unfolding accepted_record
    accept_makes =
        let all = all_accepted (marked i r) (active r) in
        let l = with_full i r in
        made _ l _ (kept l (put_full all)) (flagged_one i (active r) 1 l ∙ mark_full all) (sound_named r e).0 (omega arith)
