-- Where the accepted words stand: apart from each other and from the header, whole words, each told by its offset.
-- Assumes nothing.
use mathlib.Core.Path.{◌≡◌, sym, ap, ◌∙◌}
use mathlib.Core.Logic.{◌⊎◌, inl, inr, ⊎_elim}
use Prim.Native.Nat.{ℕ, suc, ◌+◌, ◌*◌, ◌-◌, ◌/◌, ◌%◌, ◌<◌, ◌≤◌}
use native.Mathlib.Nat.{suc-mul, mul_assoc, mul_comm, div-add-mod'}
use native.Mathlib.Omega.{arith}
use lib.Arith.{digits_div, digits_mod}
use Rattle.fields.proofs.Tests.{le_or_lt}
use Rattle.record_layout.specs.Layout.{header_size, entry_size, record_size, accepted_at}
use Rattle.record_layout.proofs.Sizes.{at_most, entry_in}

-- two whole words that are not the same stand apart
pub words_apart : (o at : ℕ) → 4 * (o / 4) ≡ o → 4 * (at / 4) ≡ at → (o ≡ at → ⊥) → (o + 4 ≤ at) ⊎ (at + 4 ≤ o)
words_apart o at whole w other =
    ⊎_elim
    (λ p. ⊎_elim (λ q. absurd (other (omega arith))) (λ q. inl (omega arith)) (le_or_lt at o))
    (λ p. inr (omega arith))
    (le_or_lt o at)

module _ (banks b : ℕ) (below : b < banks) where
  -- it ends in the record
  pub place_in : (images i : ℕ) → i < images → accepted_at banks i b + 4 ≤ record_size banks images
  place_in images i h = omega (arith, entry_in banks images i h)

  -- those of earlier images come first
  pub place_before : (i j : ℕ) → i < j → accepted_at banks i b + 4 ≤ accepted_at banks j b
  place_before i j h =
      omega (arith, at_most (suc i) (entry_size banks) j (entry_size banks) (omega arith) (omega arith), suc-mul i (entry_size banks))

  -- it is a whole word
  pub place_whole : (i : ℕ) → 4 * (accepted_at banks i b / 4) ≡ accepted_at banks i b
  place_whole i =
      let z : entry_size banks ≡ (8 + 6 * banks) * 4 = omega arith in
      let w : i * entry_size banks ≡ 4 * (i * (8 + 6 * banks)) =
      ap (λ (k : ℕ). i * k) z ∙ sym (mul_assoc i (8 + 6 * banks) 4) ∙ mul_comm (i * (8 + 6 * banks)) 4 in
      omega (arith, w)

  -- another whole word stands apart from it
  pub place_apart : (i o : ℕ) → 4 * (o / 4) ≡ o → (o ≡ accepted_at banks i b → ⊥) → (o + 4 ≤ accepted_at banks i b) ⊎ (accepted_at banks i b + 4 ≤ o)
  place_apart i o whole other = words_apart o (accepted_at banks i b) whole (place_whole i) other

  -- image and place in its entry, from the offset
  pub place_told : (i o : ℕ) → o ≡ accepted_at banks i b → ((o - header_size) / entry_size banks ≡ i) × ((o - header_size) % entry_size banks ≡ 32 + 24 * b + 16)
  place_told i o e =
      let d : o - header_size ≡ i * entry_size banks + (32 + 24 * b + 16) = omega arith in
      let small : 32 + 24 * b + 16 < entry_size banks = omega arith in
      (ap (λ (k : ℕ). k / entry_size banks) d ∙ digits_div i small, ap (λ (k : ℕ). k % entry_size banks) d ∙ digits_mod i small)

  pub place_of : (o : ℕ) → header_size ≤ o → (o - header_size) % entry_size banks ≡ 32 + 24 * b + 16 → o ≡ accepted_at banks ((o - header_size) / entry_size banks) b
  place_of o h e = omega (arith, div-add-mod' (o - header_size) (entry_size banks))
