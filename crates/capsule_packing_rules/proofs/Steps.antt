-- What `packed_size` answers, by what each of its steps found. Assumes nothing.
use mathlib.Core.Path.{◌≡◌, refl, sym, ◌∙◌}
use mathlib.Core.Bool.{true}
use mathlib.Core.List.{[], ◌∷◌}
use mathlib.Core.Logic.{⊎_elim}
use Prim.Native.Nat.{ℕ, ◌+◌, ◌*◌, ◌≤◌, ◌<◌}
use native.Mathlib.Omega.{arith}
use borrow.Author.Tests.{ltb-false, lt-ltb, le-ltb, not-false}
use lib.Dec.{ltb}
use Rattle.fields.proofs.Tests.{le_or_lt}
use Rattle.refusals.specs.declared.Refusal.{Refusal}
use Rattle.refusals.specs.declared.Refusal.TheVariants.{PackSize}
use Rattle.refusal_order.specs.Decide.{passed, refused, decide, gives, refusing, reply}
use Rattle.refusal_order.proofs.Decide.{found, missed, refused_before, passed_before, no_fault}
use Rattle.capsule_body.specs.Body.{item_limit}
use Rattle.capsule_contents.specs.Contents.{items_of, size_limit}
use Rattle.capsule_contents.specs.Lent.{Lent, contents_of}
use Rattle.capsule_contents.specs.Sizes.{cap, size_cap, item_size, sum}
use Rattle.capsule_contents.proofs.Caps.{cap_low, cap_right, cap_below}
use Rattle.capsule_packing_rules.specs.Rules.{parts_inside, capsule_size, contents_tests, size_tests, sized}
use Rattle.capsule_packing_rules.proofs.Sizes.{packed_size_is}

module _ (x : Lent) where
  pub contents_refused : (why : Refusal) → refused why ≡ decide (contents_tests x) → refusing why ≡ sized x
  unfolding sized size_tests reply
  contents_refused why e = rw (← refused_before (contents_tests x) ((ltb size_limit (capsule_size x), PackSize) ∷ []) _ _ e)

  module _ (fine : passed ≡ decide (contents_tests x)) where
    -- what the tests before that of the size leave known
    pub few : items_of (contents_of x) ≤ item_limit
    unfolding contents_tests
    few = ltb-false item_limit (items_of (contents_of x)) (no_fault (contents_tests x) fine).0

    within : parts_inside x ≡ true
    unfolding contents_tests
    within = not-false (parts_inside x) (no_fault (contents_tests x) fine).1.0

    -- the size that is worked is the capsule's, or the cap
    module _ (size n total : ℕ) (e : size ≡ cap (36 + 8 * n + total)) (counted : n ≡ items_of (contents_of x))
        (added : total ≡ cap (sum (items_of (contents_of x)) (item_size x.driver_table x.payload_table))) where
      worked : size ≡ cap (capsule_size x)
      worked = e ∙ rw (counted, added, packed_size_is x within) (cap_right (36 + 8 * items_of (contents_of x)) _ (omega (arith, few)))

      -- 56
      pub size_refused : size_cap ≤ size → refusing PackSize ≡ sized x
      unfolding sized size_tests reply
      size_refused h =
          let past : size_limit < capsule_size x =
          ⊎_elim (λ (high : size_cap ≤ capsule_size x). omega arith)
          (λ low. absurd (omega (arith, worked, cap_low (capsule_size x) (omega arith)))) (le_or_lt size_cap (capsule_size x)) in
          rw (← passed_before (contents_tests x) ((ltb size_limit (capsule_size x), PackSize) ∷ []) _ fine
          (found (ltb size_limit (capsule_size x)) PackSize [] (lt-ltb size_limit (capsule_size x) past)))

      pub size_given : size < size_cap → gives size ≡ sized x
      unfolding sized size_tests reply decide
      size_given h =
          let whole : capsule_size x ≡ size = cap_below (capsule_size x) (rw (← worked) h) ∙ sym worked in
          rw (← passed_before (contents_tests x) ((ltb size_limit (capsule_size x), PackSize) ∷ []) passed fine
          (missed (ltb size_limit (capsule_size x)) PackSize [] passed (le-ltb size_limit (capsule_size x) (omega arith)) refl))
          (rw whole)
