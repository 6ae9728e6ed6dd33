-- Soundness told by the fields: a record that says what the rules ask, and has a sound record's bytes elsewhere, is
-- sound. Assumes nothing.
use mathlib.Core.Path.{◌≡◌, refl, sym, ap, ◌∙◌}
use mathlib.Core.Bool.{Bool, true, not, ◌&&◌}
use mathlib.Core.Logic.{inl, inr}
use mathlib.Core.List.{List}
use Prim.Native.Nat.{ℕ, ◌+◌, ◌≤◌, ◌<◌}
use native.Mathlib.Omega.{arith}
use borrow.Author.Tests.{le-leb, lt-ltb, not-true}
use lib.Dec.{eqb, leb}
use lib.ListN.{get_or}
use Rattle.fields.specs.Number.{le}
use Rattle.fields.specs.Guid.{guid, same}
use Rattle.fields.proofs.Tests.{both}
use Rattle.fields.proofs.Number.{le_same}
use Rattle.fields.proofs.Beside.{Apart, apart_each, guid_same}
use Rattle.record_layout.specs.Every.{below}
use Rattle.record_layout.specs.Layout.{version, active, reserved22, state, reserved28, bank_count, reserved33, image_count, entry_at, type_guid, accepted_at, reserved_at, accepted, reserved}
use Rattle.record_layout.specs.Rules.{version_rule, bank_count_rule, image_count_rule, bank_entry_size_rule, image_entry_size_rule, size_rule, descriptor_offset_rule, reserved_rule, banks_named_rule, accepted_rule, type_guids_rule, invalid, state_allowed, states_rule, all_accepted, bank_consistent, banks_rule, crc_rule, rules, sound}
use Rattle.record_layout.specs.Sized.{Sized}
use Rattle.record_layout.proofs.Below.{below_each, below_all, below_same}
use Rattle.record_layout.proofs.Sound.{All, all_of, sound_named, sound_accepted, bank_fits_words}
use Rattle.proof_kept_sound.specs.Fields.{Fields, fields_of, all_in, OutsideField, Elsewhere}
use Rattle.proof_kept_sound.proofs.Places.{guid_elsewhere, reserved_elsewhere, header_elsewhere}
use Rattle.proof_kept_sound.proofs.Says.{Says}
use Rattle.proof_kept_sound.proofs.Good.{Good}

-- rule 13 for one bank, as the fields tell it
consistent_fits : (r : List ℕ) (b : ℕ) → bank_consistent r b ≡ bank_fits_words (state r b) (all_accepted r b)
unfolding bank_consistent bank_fits_words
consistent_fits r b = refl

pub all_in_lem : (r : List ℕ) (b : ℕ) → all_accepted r b ≡ all_in (image_count r) b (fields_of r)
unfolding all_accepted
all_in_lem r b = refl

-- a sound record's fields are what the rules ask
pub good_of : (r : List ℕ) → sound r ≡ true → Good (bank_count r) (image_count r) (fields_of r)
unfolding sound states_rule banks_rule
good_of r e =
    let a : All rules r = all_of rules r e in
    let named = sound_named r e in
    let states = a.1.1.1.1.1.1.1.1.1.1.1.0 in
    let banks =
    both (below (bank_count r) (bank_consistent r)) (not (eqb (state r (active r)) invalid)) a.1.1.1.1.1.1.1.1.1.1.1.1.0 in
    record {
      active_low = named.0;
      previous_low = named.1;
      flags_low = λ i b hi hb. sound_accepted r i b e hi hb;
      states_known = λ b hb. below_each (λ c. state_allowed (bank_count r) c (state r c)) 4 b states hb;
      fitting =
          λ b hb. rw (← all_in_lem r b) (sym (consistent_fits r b) ∙ below_each (bank_consistent r) (bank_count r) b banks.0 hb);
      live = not-true (eqb (state r (active r)) invalid) banks.1;
    }

module _ (r y : List ℕ) (f : Fields) (w : Says r (bank_count r) (image_count r) y f) where
  -- ---- fields that no call alters
  le_stays : (n j : ℕ) → ((k : ℕ) → k < n → Elsewhere (bank_count r) (image_count r) (j + k)) → le n y j ≡ le n r j
  le_stays n j h = le_same n y r j j (λ k lt. w.stays (j + k) (h k lt))

  header_stays : (k : ℕ) → OutsideField 0 4 k → OutsideField 8 8 k → OutsideField 24 4 k → k < 40 → get_or y k 0 ≡ get_or r k 0
  header_stays k c n t h = w.stays k (header_elsewhere (bank_count r) (image_count r) k c n t h)

  field_stays : (n j : ℕ) → Apart 0 4 j n → Apart 8 8 j n → Apart 24 4 j n → j + n ≤ 40 → le n y j ≡ le n r j
  field_stays n j c a t h =
      le_stays n j (λ k lt.
      header_elsewhere (bank_count r) (image_count r) (j + k) (apart_each 0 4 j n k c lt) (apart_each 8 8 j n k a lt) (apart_each 24 4 j n k t lt)
      (omega arith))

  -- a field behind the states, and one between the banks' names and the states
  late : (n j : ℕ) → 28 ≤ j → j + n ≤ 40 → le n y j ≡ le n r j
  late n j h k = field_stays n j (inl (omega arith)) (inl (omega arith)) (inl (omega arith)) k

  middle : (n j : ℕ) → 16 ≤ j → j + n ≤ 24 → le n y j ≡ le n r j
  middle n j h k = field_stays n j (inl (omega arith)) (inl (omega arith)) (inr (omega arith)) (omega arith)

  version_stays : version y ≡ version r
  version_stays = field_stays 4 4 (inl (omega arith)) (inr (omega arith)) (inr (omega arith)) (omega arith)

  pub banks_stay : bank_count y ≡ bank_count r
  banks_stay = header_stays 32 (inr (omega arith)) (inr (omega arith)) (inr (omega arith)) (omega arith)

  pub images_stay : image_count y ≡ image_count r
  images_stay = late 2 34 (omega arith) (omega arith)

  reserved33_stays : reserved33 y ≡ reserved33 r
  reserved33_stays = header_stays 33 (inr (omega arith)) (inr (omega arith)) (inr (omega arith)) (omega arith)

  reserved_stays : (i b : ℕ) → b < bank_count r → le 4 y (reserved_at (bank_count r) i b) ≡ reserved r i b
  reserved_stays i b h = le_stays 4 (reserved_at (bank_count r) i b) (λ k lt. reserved_elsewhere (bank_count r) (image_count r) i b k h lt)

  guid_stays : (i : ℕ) → guid y (entry_at (bank_count r) i) ≡ type_guid r i
  guid_stays i =
      guid_same y r (entry_at (bank_count r) i) w.long (λ k lt.
      w.stays (entry_at (bank_count r) i + k) (guid_elsewhere (bank_count r) (image_count r) i k lt))

  pub types_stay : (i : ℕ) → type_guid y i ≡ type_guid r i
  types_stay i = rw banks_stay (guid_stays i)

  -- ---- rules 1 to 8 and 11
  rule1 : version_rule y ≡ version_rule r
  unfolding version_rule
  rule1 = rw version_stays

  rule2 : bank_count_rule y ≡ bank_count_rule r
  unfolding bank_count_rule
  rule2 = rw banks_stay

  rule3 : image_count_rule y ≡ image_count_rule r
  unfolding image_count_rule
  rule3 = rw images_stay

  rule4 : bank_entry_size_rule y ≡ bank_entry_size_rule r
  unfolding bank_entry_size_rule
  rule4 = rw (late 2 38 (omega arith) (omega arith))

  rule5 : image_entry_size_rule y ≡ image_entry_size_rule r
  unfolding image_entry_size_rule
  rule5 = rw (late 2 36 (omega arith) (omega arith), banks_stay)

  rule6 : size_rule y ≡ size_rule r
  unfolding size_rule
  rule6 = rw (middle 4 16 (omega arith) (omega arith), banks_stay, images_stay, w.long)

  rule7 : descriptor_offset_rule y ≡ descriptor_offset_rule r
  unfolding descriptor_offset_rule
  rule7 = rw (middle 2 20 (omega arith) (omega arith))

  rule8 : reserved_rule y ≡ reserved_rule r
  unfolding reserved_rule
  rule8 =
      rw (middle 2 22 (omega arith) (omega arith), late 4 28 (omega arith) (omega arith), reserved33_stays, images_stay, banks_stay)
      (ap (λ (t : Bool). (eqb (reserved22 r) 0 && (eqb (reserved28 r) 0 && eqb (reserved33 r) 0)) && t)
      (below_same (λ i. below (bank_count r) (λ b. eqb (le 4 y (reserved_at (bank_count r) i b)) 0))
      (λ i. below (bank_count r) (λ b. eqb (reserved r i b) 0))
      (image_count r)
      (λ i hi.
      below_same (λ b. eqb (le 4 y (reserved_at (bank_count r) i b)) 0) (λ b. eqb (reserved r i b) 0) (bank_count r) (λ b hb.
      rw (reserved_stays i b hb)))))

  rule11 : type_guids_rule y ≡ type_guids_rule r
  unfolding type_guids_rule
  rule11 =
      rw (images_stay, banks_stay)
      (below_same (λ i. below i (λ j. not (same (guid y (entry_at (bank_count r) j)) (guid y (entry_at (bank_count r) i)))))
      (λ i. below i (λ j. not (same (type_guid r j) (type_guid r i))))
      (image_count r)
      (λ i hi.
      below_same (λ j. not (same (guid y (entry_at (bank_count r) j)) (guid y (entry_at (bank_count r) i))))
      (λ j. not (same (type_guid r j) (type_guid r i)))
      i
      (λ j hj. rw (guid_stays j, guid_stays i))))

  -- ---- rules 9, 10, 12 and 13
  pub flag_reads : (i b : ℕ) → i < image_count r → b < bank_count r → accepted y i b ≡ f.flags i b
  flag_reads i b hi hb = rw banks_stay (w.flag_is i b hi hb)

  pub all_reads : (b : ℕ) → b < bank_count r → all_accepted y b ≡ all_in (image_count r) b f
  unfolding all_accepted
  all_reads b hb =
      rw images_stay
      (below_same (λ i. eqb (accepted y i b) 1) (λ i. eqb (f.flags i b) 1) (image_count r) (λ i hi. rw (flag_reads i b hi hb)))

  module _ (s : Sized r (bank_count r) (image_count r)) (g : Good (bank_count r) (image_count r) f) where
    rule9 : banks_named_rule y ≡ true
    unfolding banks_named_rule
    rule9 =
        rw (w.active_is, w.previous_is, banks_stay, lt-ltb f.active_bank (bank_count r) g.active_low)
        (lt-ltb f.previous_bank (bank_count r) g.previous_low)

    rule10 : accepted_rule y ≡ true
    unfolding accepted_rule
    rule10 =
        rw (images_stay, banks_stay)
        (below_all (λ i. below (bank_count r) (λ b. leb (le 4 y (accepted_at (bank_count r) i b)) 1)) (image_count r) (λ i hi.
        below_all (λ b. leb (le 4 y (accepted_at (bank_count r) i b)) 1) (bank_count r) (λ b hb.
        rw (w.flag_is i b hi hb) (le-leb (f.flags i b) 1 (g.flags_low i b hi hb)))))

    rule12 : states_rule y ≡ true
    unfolding states_rule
    rule12 =
        rw banks_stay
        (below_all (λ b. state_allowed (bank_count r) b (state y b)) 4 (λ b hb. rw (w.state_is b hb) (g.states_known b hb)))

    bank_fits : (b : ℕ) → b < bank_count r → bank_consistent y b ≡ true
    bank_fits b hb =
        let low : b < 4 = omega (arith, s.banks_high) in
        rw (consistent_fits y b, w.state_is b low, all_reads b hb) (g.fitting b hb)

    rule13 : banks_rule y ≡ true
    unfolding banks_rule
    rule13 =
        let low : f.active_bank < 4 = omega (arith, s.banks_high, g.active_low) in
        rw (banks_stay, below_all (bank_consistent y) (bank_count r) bank_fits, w.active_is, w.state_is f.active_bank low, g.live)

    pub sound_of : sound r ≡ true → crc_rule y ≡ true → sound y ≡ true
    unfolding sound
    sound_of e crc =
        let a : All rules r = all_of rules r e in
        rw (
          rule1 ∙ a.0,
          rule2 ∙ a.1.0,
          rule3 ∙ a.1.1.0,
          rule4 ∙ a.1.1.1.0,
          rule5 ∙ a.1.1.1.1.0,
          rule6 ∙ a.1.1.1.1.1.0,
          rule7 ∙ a.1.1.1.1.1.1.0,
          rule8 ∙ a.1.1.1.1.1.1.1.0,
          rule9,
          rule10,
          rule11 ∙ a.1.1.1.1.1.1.1.1.1.1.0,
          rule12,
          rule13,
          crc,
        )
