-- What the definitions give at each way out of the entry. Assumes nothing.
use mathlib.Core.Path.{◌≡◌}
use mathlib.Core.List.{List}
use Prim.Native.Nat.{ℕ, ◌-◌}
use borrow.Author.Tests.{eq-eqb, ne_eqb}
use Rattle.std.specs.Prelude.{Some, None}
use Rattle.fields.specs.Number.{put}
use Rattle.refusals.specs.Number.{number_of}
use Rattle.refusals.specs.declared.Refusal.{Refusal}
use Rattle.refusals.specs.declared.Refusal.TheVariants.{TotalZero, NoPlace}
use Rattle.gather_descriptors.specs.Reading.{Reading, refused, whole, reading}
use Rattle.gather_place.specs.Place.{place_for}
use Rattle.gather_blocks.specs.Blocks.{blocks}
use Rattle.gather.specs.Gather.{refusal, place, copied_to, finished, gathered}

module _ (w : List ℕ) (B t : ℕ) (ds : List ℕ) where
  pub total_zero : t ≡ 0 → (refusal (number_of TotalZero), w) ≡ finished w B (whole t ds)
  unfolding finished
  total_zero e = rw (eq-eqb t 0 e)

  pub no_place : (t ≡ 0 → ⊥) → place_for w B t ds ≡ None → (refusal (number_of NoPlace), w) ≡ finished w B (whole t ds)
  unfolding finished copied_to
  no_place z e = rw (ne_eqb t 0 z, e)

  pub at_place : (p : ℕ) → (t ≡ 0 → ⊥) → place_for w B t ds ≡ Some p
      → (place p t, put w (p - B) (blocks w B ds)) ≡ finished w B (whole t ds)
  unfolding finished copied_to
  at_place p z e = rw (ne_eqb t 0 z, e)

pub list_refused : (w : List ℕ) (B a : ℕ) (n : Refusal) → reading w B a ≡ refused n → (refusal (number_of n), w) ≡ gathered w B a
unfolding gathered finished
list_refused w B a n e = rw e

pub list_whole : (w : List ℕ) (B a : ℕ) (X : Reading) → reading w B a ≡ X → finished w B X ≡ gathered w B a
unfolding gathered
list_whole w B a X e = rw e
