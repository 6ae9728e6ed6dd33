-- What a record with one field anew says. Assumes nothing.
use mathlib.Core.Path.{◌≡◌, refl}
use mathlib.Core.Logic.{◌⊎◌, inl, inr, ⊎_elim}
use mathlib.Core.Bool.{true}
use mathlib.Core.List.{List, [], ◌∷◌}
use Prim.Native.Nat.{ℕ, suc, ◌+◌, ◌*◌, ◌≤◌, ◌<◌}
use native.Mathlib.Nat.{suc-mul}
use native.Mathlib.Omega.{arith}
use lib.ListN.{length}
use Rattle.fields.specs.Number.{le}
use Rattle.fields.proofs.Tests.{le_or_lt}
use Rattle.fields.proofs.Put.{put_outside, read_back}
use Rattle.fields.proofs.Beside.{byte_back}
use Rattle.fields.proofs.Bytes.{word_byte, word_apart}
use Rattle.record_layout.specs.Layout.{active, state, bank_count, image_count, entry_size, accepted_at, accepted}
use Rattle.record_layout.specs.Rules.{sound}
use Rattle.record_layout.specs.Sized.{Sized}
use Rattle.record_layout.proofs.Sound.{sound_long, sound_named}
use Rattle.record_layout.proofs.Sizes.{at_most, bank_in}
use Rattle.record_alterations.specs.Fields.{set_state, set_accepted}
use Rattle.update_changes.specs.NewRecord.{marked}
use Rattle.update_changes.proofs.Banks.{sized, banks_few}

either_side : (m n : ℕ) → (m ≡ n → ⊥) → (m < n) ⊎ (n < m)
either_side m n ne = ⊎_elim (λ le. inr (⊎_elim (λ ge. absurd (ne (omega arith))) (λ lt. lt) (le_or_lt m n))) (λ lt. inl lt) (le_or_lt n m)

-- ---- the state of bank b
module _ (r : List ℕ) (e : sound r ≡ true) (b s : ℕ) (k : b < bank_count r) where
  inside : 24 + b + 1 ≤ length r
  inside = omega (arith, sound_long r e, (banks_few r e).1)

  pub state_is : state (set_state b s r) b ≡ s
  unfolding set_state
  state_is = byte_back r (24 + b) s inside

  pub state_other : (j : ℕ) → (j ≡ b → ⊥) → state (set_state b s r) j ≡ state r j
  unfolding set_state
  state_other j ne =
      put_outside r (24 + b) (s ∷ []) inside (24 + j)
      (⊎_elim (λ lt. inl (omega arith)) (λ gt. inr (omega arith)) (either_side j b ne))

-- ---- the accepted word of image i in bank b
-- what Accept marks
pub marked_is : (i : ℕ) (r : List ℕ) → marked i r ≡ set_accepted i (active r) 1 r
unfolding marked
marked_is i r = refl

module _ (r : List ℕ) (banks images : ℕ) (z : Sized r banks images) (i b v : ℕ) (hi : i < images) (hb : b < banks) where
  pub accepted_in : accepted_at (bank_count r) i b + 4 ≤ length r
  accepted_in = rw z.banks_is (omega (arith, bank_in r banks images i b z hi hb))

  accepted_banks : bank_count (set_accepted i b v r) ≡ bank_count r
  unfolding set_accepted
  accepted_banks = word_byte r (accepted_at (bank_count r) i b) v accepted_in 32 (inl (omega arith))

  pub accepted_images : image_count (set_accepted i b v r) ≡ image_count r
  unfolding set_accepted
  accepted_images = word_apart r (accepted_at (bank_count r) i b) v accepted_in 2 34 (inl (omega arith))

  -- what was set
  accepted_read : v < 4294967296 → le 4 (set_accepted i b v r) (accepted_at (bank_count r) i b) ≡ v
  unfolding set_accepted
  accepted_read lv = read_back 4 r (accepted_at (bank_count r) i b) v accepted_in lv

  pub accepted_is : v < 4294967296 → accepted (set_accepted i b v r) i b ≡ v
  accepted_is lv = rw accepted_banks (accepted_read lv)

  -- another image's
  steps : (m n : ℕ) → m < n → m * entry_size (bank_count r) + entry_size (bank_count r) ≤ n * entry_size (bank_count r)
  steps m n lt = let E = entry_size (bank_count r) in omega (arith, at_most (suc m) E n E (omega arith) (omega arith), suc-mul m E)

  other_read : (k : ℕ) → (k < i) ⊎ (i < k) → le 4 (set_accepted i b v r) (accepted_at (bank_count r) k b) ≡ le 4 r (accepted_at (bank_count r) k b)
  unfolding set_accepted
  other_read k side =
      word_apart r (accepted_at (bank_count r) i b) v accepted_in 4 (accepted_at (bank_count r) k b)
      (⊎_elim (λ lt. inl (omega (arith, steps k i lt))) (λ gt. inr (omega (arith, steps i k gt))) side)

  pub accepted_other : (k : ℕ) → (k ≡ i → ⊥) → accepted (set_accepted i b v r) k b ≡ accepted r k b
  accepted_other k ne = rw accepted_banks (other_read k (either_side k i ne))

-- ---- what Accept marks in a sound record: image i, and no other
module _ (r : List ℕ) (e : sound r ≡ true) (i : ℕ) (hi : i < image_count r) where
  pub marked_images : image_count (marked i r) ≡ image_count r
  unfolding marked
  marked_images = accepted_images r (bank_count r) (image_count r) (sized r e) i (active r) 1 hi (sound_named r e).0

  pub marked_at : accepted (marked i r) i (active r) ≡ 1
  unfolding marked
  marked_at = accepted_is r (bank_count r) (image_count r) (sized r e) i (active r) 1 hi (sound_named r e).0 (omega arith)

  pub marked_other : (k : ℕ) → (k ≡ i → ⊥) → accepted (marked i r) k (active r) ≡ accepted r k (active r)
  unfolding marked
  marked_other = accepted_other r (bank_count r) (image_count r) (sized r e) i (active r) 1 hi (sound_named r e).0
