-- The record of WitnessRecord.antt is sound: each of the fourteen rules holds. Assumes nothing.
use mathlib.Core.Path.{◌≡◌, refl, ◌∙◌}
use mathlib.Core.Bool.{Bool, true, false, cond}
use Prim.Native.Nat.{ℕ, ◌<◌}
use native.Mathlib.Omega.{arith}
use borrow.Author.Tests.{eq-eqb, le-leb, lt-ltb}
use lib.Dec.{eqb, leb}
use Rattle.fields.specs.Number.{le, bytes, words_bytes}
use Rattle.record_layout.specs.Every.{below}
use Rattle.record_layout.specs.Layout.{image_limit, crc, reserved22, state, reserved28, reserved33, type_guid, accepted, reserved}
use Rattle.record_layout.specs.Rules as rule
use Rattle.record_layout.specs.Rules.{everywhere, invalid, accepted_bank, sound}
use Rattle.record_layout.proofs.Below.{below_all, below_same, distinct_same}
use Rattle.record_layout.proofs.Sound.{bank_fits_words, fits_ended, live_ended}
use Rattle.proof_directory.proofs.WitnessRecord.{Wanted, Possible, banks, size_for}
use Rattle.proof_directory.proofs.WitnessRecord.{active_for, all_for, state_for, crc_for, witness_record}
use Rattle.proof_directory.proofs.WitnessRecord.{active_low, record_long, header_is, banks_is}
use Rattle.proof_directory.proofs.WitnessRecord.{images_is, guid_is, bank0_is, bank1_is}

module _ (x : Wanted) (p : Possible x) where
  -- those that ask for one value
  fixed : (rule.version_rule (witness_record x) ≡ true) × (rule.bank_count_rule (witness_record x) ≡ true)
      × (rule.bank_entry_size_rule (witness_record x) ≡ true) × (rule.image_entry_size_rule (witness_record x) ≡ true)
      × (rule.descriptor_offset_rule (witness_record x) ≡ true)
  unfolding rule.version_rule rule.bank_count_rule rule.bank_entry_size_rule rule.image_entry_size_rule rule.descriptor_offset_rule
      witness_record words_bytes bytes le
  fixed = (refl, rw (banks_is x p), refl, rw (banks_is x p), refl)

  image_count_holds : rule.image_count_rule (witness_record x) ≡ true
  unfolding rule.image_count_rule
  image_count_holds = rw (images_is x p, le-leb 1 x.images p.some, le-leb x.images image_limit p.few)

  size_holds : rule.size_rule (witness_record x) ≡ true
  unfolding rule.size_rule
  size_holds =
      rw ((header_is x p).1.1.1.1.0, banks_is x p, images_is x p, record_long x p, eq-eqb (size_for x) (size_for x) refl)

  -- at both banks of each image
  every_bank : (test : ℕ → ℕ → Bool) → ((k : ℕ) → k < x.images → test k 0 ≡ true) → ((k : ℕ) → k < x.images → test k 1 ≡ true)
      → everywhere (witness_record x) test ≡ true
  unfolding below
  every_bank test f g =
      rw (images_is x p, banks_is x p) (below_all (λ k. below banks (test k)) x.images (λ k h. rw (f k h, g k h)))

  header_reserved : (reserved22 (witness_record x) ≡ 0) × (reserved28 (witness_record x) ≡ 0) × (reserved33 (witness_record x) ≡ 0)
  unfolding witness_record words_bytes bytes le
  header_reserved = (refl, refl, omega (arith, p.few))

  reserved_holds : rule.reserved_rule (witness_record x) ≡ true
  unfolding rule.reserved_rule
  reserved_holds =
      rw (header_reserved.0, header_reserved.1, header_reserved.2)
      (every_bank (λ k b. eqb (reserved (witness_record x) k b) 0) (λ k h. rw (bank0_is x p k h).1) (λ k h. rw (bank1_is x p k h).1))

  banks_named_holds : rule.banks_named_rule (witness_record x) ≡ true
  unfolding rule.banks_named_rule
  banks_named_holds =
      let h = (header_is x p).1.1 in
      rw (h.0, h.1.0, banks_is x p, lt-ltb (active_for x) banks (omega (arith, active_low x.right)))

  accepted_holds : rule.accepted_rule (witness_record x) ≡ true
  unfolding rule.accepted_rule
  accepted_holds =
      every_bank (λ k b. leb (accepted (witness_record x) k b) 1)
      (λ k h. rw (bank0_is x p k h).0 (le-leb (x.flags k) 1 (p.flags_low k h))) (λ k h. rw (bank1_is x p k h).0)

  type_guids_holds : rule.type_guids_rule (witness_record x) ≡ true
  unfolding rule.type_guids_rule
  type_guids_holds =
      rw (images_is x p)
      (distinct_same x.images (type_guid (witness_record x)) x.guids (guid_is x p) ∙ p.guids_differ)

  -- by whether all are accepted in bank 0
  states_with : (b : Bool) → all_for x ≡ b
      → (state (witness_record x) 0 ≡ state_for x) × (state (witness_record x) 1 ≡ accepted_bank) × (rule.states_rule (witness_record x) ≡ true)
  unfolding rule.states_rule rule.state_allowed below witness_record words_bytes bytes
  states_with true e = rw (banks_is x p, e) (refl, refl, refl)
  states_with false e = rw (banks_is x p, e) (refl, refl, refl)

  all_0 : rule.all_accepted (witness_record x) 0 ≡ all_for x
  unfolding rule.all_accepted
  all_0 =
      rw (images_is x p)
      (below_same (λ k. eqb (accepted (witness_record x) k 0) 1) (λ k. eqb (x.flags k) 1) x.images (λ k h. rw (bank0_is x p k h).0))

  all_1 : rule.all_accepted (witness_record x) 1 ≡ true
  unfolding rule.all_accepted
  all_1 = rw (images_is x p) (below_all (λ k. eqb (accepted (witness_record x) k 1) 1) x.images (λ k h. rw (bank1_is x p k h).0))

  live : (b : Bool) → eqb (state (witness_record x) (cond b 0 1)) invalid ≡ false
  live true = rw (states_with (all_for x) refl).0 (live_ended (all_for x))
  live false = rw (states_with (all_for x) refl).1

  banks_hold : rule.banks_rule (witness_record x) ≡ true
  unfolding rule.banks_rule rule.bank_consistent bank_fits_words below
  banks_hold =
      let s = states_with (all_for x) refl in
      rw ((header_is x p).1.1.0, live x.right, banks_is x p, s.0, s.1, all_0, all_1, fits_ended (all_for x))

  crc_holds : rule.crc_rule (witness_record x) ≡ true
  unfolding rule.crc_rule witness_record words_bytes bytes
  crc_holds = eq-eqb (crc (witness_record x)) (crc_for x) (header_is x p).0

  pub witness_sound : sound (witness_record x) ≡ true
  unfolding sound
  witness_sound =
      rw (
        fixed.0,
        fixed.1,
        image_count_holds,
        fixed.2,
        fixed.3,
        size_holds,
        fixed.4,
        reserved_holds,
        banks_named_holds,
        accepted_holds,
        type_guids_holds,
        (states_with (all_for x) refl).2,
        banks_hold,
        crc_holds,
      )
