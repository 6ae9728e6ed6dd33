-- 20, 23, 21 and 22, by the copy that is read. Assumes nothing.
use mathlib.Core.Path.{◌≡◌, refl, sym}
use mathlib.Core.Bool.{Bool, true, false, cond, not, ◌||◌}
use mathlib.Core.List.{List, ◌∷◌, []}
use Prim.Native.Nat.{ℕ, ◌≤◌}
use native.Mathlib.Omega.{arith}
use Rattle.std.specs.Prelude.{Some, None}
use borrow.Author.Tests.{eq-eqb, le-ltb}
use lib.ListN.{length}
use Rattle.refusals.specs.declared.Refusal.TheVariants.{NoSoundCopy, NotSoundAndEqual}
use Rattle.record_layout.specs.Layout.{area_size, copy0, copy1}
use Rattle.record_layout.specs.Rules.{sound_copy}
use Rattle.record_copies.specs.Copies.{source_of, sound_and_equal}
use Rattle.record_copies.specs.declared.Source.{Source}
use Rattle.record_copies.specs.declared.Source.TheVariants.{Copy0, Copy1}
use Rattle.record_copies.proofs.Reading.{copy0_unsound}
use Rattle.record_stores.specs.Stores.{store_numbers}
use Rattle.refusal_order.specs.Decide.{refused, decide}
use Rattle.update_admission.specs.Rows.{sound_test, repair_tests, area_tests}

some_not_none : (x : Source) → Some x ≡ None → ⊥
some_not_none x e = let z : ◌≡◌ {A = ℕ} 0 1 = cc in omega arith

-- 21: there is no copy to be read, or there is one
pub none_sound : (a : List ℕ) → source_of a ≡ None → (sound_test a).0 ≡ true
unfolding source_of
none_sound a e = lost (sound_copy (copy0 a)) (sound_copy (copy1 a)) e
  where
    lost : (x y : Bool) → cond x (Some Copy0) (cond y (Some Copy1) None) ≡ None → not (x || y) ≡ true
    lost true y e = absurd (some_not_none Copy0 e)
    lost false true e = absurd (some_not_none Copy1 e)
    lost false false e = refl

pub some_sound : (a : List ℕ) (x : Source) → source_of a ≡ Some x → (sound_test a).0 ≡ false
unfolding source_of
some_sound a x e = found (sound_copy (copy0 a)) (sound_copy (copy1 a)) e
  where
    found : (v w : Bool) → cond v (Some Copy0) (cond w (Some Copy1) None) ≡ Some x → not (v || w) ≡ false
    found true w n = refl
    found false true n = refl
    found false false n = absurd (some_not_none x (sym n))

module _ (a : List ℕ) (n : ℕ) (l : length a ≡ area_size) (h : store_numbers ≤ n) where
  pub by_copy0 : source_of a ≡ Some Copy0 → decide ((not (sound_and_equal a), NotSoundAndEqual) ∷ []) ≡ decide (area_tests a n)
  unfolding decide area_tests repair_tests
  by_copy0 e = rw (eq-eqb (length a) area_size l, le-ltb n store_numbers h, some_sound a Copy0 e)

  pub by_copy1 : source_of a ≡ Some Copy1 → refused NotSoundAndEqual ≡ decide (area_tests a n)
  unfolding decide area_tests repair_tests sound_and_equal
  by_copy1 e =
      rw (eq-eqb (length a) area_size l, le-ltb n store_numbers h, some_sound a Copy1 e, copy0_unsound a e)

  pub by_none : source_of a ≡ None → refused NoSoundCopy ≡ decide (area_tests a n)
  unfolding decide area_tests repair_tests
  by_none e = rw (eq-eqb (length a) area_size l, le-ltb n store_numbers h, none_sound a e)
