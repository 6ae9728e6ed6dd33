-- The words of every bank of every image, as rules 8 and 10 read them. Assumes nothing.
use mathlib.Core.Path.{◌≡◌, refl, sym, ◌∙◌}
use mathlib.Core.List.{List}
use Prim.Native.Nat.{ℕ, zero, suc}
use lib.Dec.{eqb, leb, leb-suc-zero, eqb-suc-zero}
use Rattle.fields.specs.Number.{le}
use Rattle.record_layout.specs.Every.{below}
use Rattle.record_layout.specs.Layout.{accepted, reserved, reserved_at}
use Rattle.record_layout.specs.Rules.{everywhere}
use Rattle.record_layout.specs.Sized.{Sized, bank_words}
use Rattle.record_layout.proofs.Below.{below_same}

-- at most 0 is 0
none : (x : ℕ) → leb x 0 ≡ eqb x 0
none zero = refl
none (suc n) = leb-suc-zero n ∙ sym (eqb-suc-zero n)

module _ (r : List ℕ) (banks images : ℕ) (s : Sized r banks images) where
  pub reserved_words : below images (bank_words r banks 20 0) ≡ everywhere r (λ i b. eqb (reserved r i b) 0)
  unfolding bank_words
  reserved_words =
      simp (s.banks_is, s.images_is)
      (below_same (bank_words r banks 20 0) (λ i. below banks (λ b. eqb (le 4 r (reserved_at banks i b)) 0)) images
      (λ i lt. below_same (λ b. leb (le 4 r (reserved_at banks i b)) 0) (λ b. eqb (le 4 r (reserved_at banks i b)) 0) banks
      (λ b lb. none (le 4 r (reserved_at banks i b)))))

  pub accepted_words : below images (bank_words r banks 16 1) ≡ everywhere r (λ i b. leb (accepted r i b) 1)
  unfolding bank_words
  accepted_words = simp (s.banks_is, s.images_is)
