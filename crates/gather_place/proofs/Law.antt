-- The place that is computed is the one that G12 names (specs/Law.antt). Assumes nothing.
use mathlib.Core.Path.{◌≡◌, refl, sym, ◌∙◌}
use mathlib.Core.Bool.{Bool, true, false}
use mathlib.Core.Logic.{◌⊎◌, ⊎_elim}
use mathlib.Core.List.{List}
use Prim.Native.Nat.{ℕ, suc, ◌+◌, ◌<◌, ◌≤◌}
use native.Mathlib.Omega.{arith}
use lib.ListN.{length, get_or}
use borrow.Author.Tests.{le-leb, lt-leb}
use Rattle.std.specs.Prelude.{Some, None}
use Rattle.fields.proofs.Tests.{no_true, le_or_lt}
use Rattle.gather_descriptors.specs.Reading.{length_of, address_of}
use Rattle.gather_place.specs.Place.{apart, clear_of, free, place_for}
use Rattle.gather_place.specs.Law.{SharesNoByte, Free, LowestFree, NoneFree}
use Rattle.gather_place.proofs.Ranges.{clear_descriptor, clear_block, clear_each, clear_no_block, clear_both, each_clear}
use Rattle.gather_place.proofs.Search.{is_free, free_parts, found_at, none_before, found_none, lowest_at, lowest_none}

-- ranges that lie side by side share no byte
side : (p t s n : ℕ) → (p + t ≤ s) ⊎ (s + n ≤ p) → SharesNoByte p t s n
side p t s n o a h k = ⊎_elim (λ x. absurd (omega arith)) (λ x. absurd (omega arith)) o

-- and ranges of at least one byte that share none lie side by side
pub apart_of : (p t s n : ℕ) → 0 < t → 0 < n → SharesNoByte p t s n → apart p t s n ≡ true
unfolding apart
apart_of p t s n ht hn h =
    ⊎_elim
    (λ x. rw (le-leb (p + t) s x))
    (λ x.
    ⊎_elim
    (λ y. rw (lt-leb (p + t) s x, le-leb (s + n) p y))
    (λ y.
    ⊎_elim
    (λ z. absurd (h s (z, x) (omega arith, omega arith)))
    (λ z. absurd (h p (omega arith, omega arith) (omega arith, y)))
    (le_or_lt p s))
    (le_or_lt (s + n) p))
    (le_or_lt (p + t) s)

module _ (w : List ℕ) (B t : ℕ) (ds : List ℕ) where
  -- the test says what the sentence says
  pub free_law : (p : ℕ) → free w B t ds p ≡ true → Free w B t ds p
  free_law p e =
      let h = free_parts w B t ds p e in
      record {
        low = h.0;
        high = h.1;
        descriptors = λ i lt. side p t (get_or ds i 0) 16 (clear_descriptor w B t p (get_or ds i 0) (clear_each w B t p ds i lt h.2));
        blocks = λ i lt.
            let d = get_or ds i 0 in
            ⊎_elim
            (λ none. λ a x y. absurd (omega arith))
            (λ some. side p t (address_of w B d) (length_of w B d) (clear_block w B t p d (clear_each w B t p ds i lt h.2) some))
            (le_or_lt (length_of w B d) 0);
      }

  module _ (some : 0 < t) where
    law_clear : (p d : ℕ) → SharesNoByte p t d 16 → SharesNoByte p t (address_of w B d) (length_of w B d) → clear_of w B t p d ≡ true
    law_clear p d hd hb =
        let one = apart_of p t d 16 some (omega arith) hd in
        ⊎_elim
        (λ none. clear_no_block w B t p d one (omega arith))
        (λ block. clear_both w B t p d one (λ z. absurd (omega arith)) (apart_of p t (address_of w B d) (length_of w B d) some block hb))
        (le_or_lt (length_of w B d) 0)

    pub law_free : (p : ℕ) → Free w B t ds p → free w B t ds p ≡ true
    law_free p f =
        is_free w B t ds p f.low f.high
        (each_clear w B t p ds (λ i lt. law_clear p (get_or ds i 0) (f.descriptors i lt) (f.blocks i lt)))

    not_free : (p : ℕ) → free w B t ds p ≡ false → Free w B t ds p → ⊥
    not_free p e f = no_true (sym e ∙ law_free p f)

    -- G12: the place that is found is free, and no lower start is
    pub place_law : (p : ℕ) → place_for w B t ds ≡ Some p → LowestFree w B t ds p
    unfolding place_for
    place_law p e =
        let h = found_at (free w B t ds) (suc (length w)) B p e in
        record {
          free = free_law p h.1;
          none_lower = λ q lt f. not_free q (none_before (free w B t ds) (suc (length w)) B p e q f.low lt) f;
        }

    -- none is found only where no start is free
    pub no_place_law : place_for w B t ds ≡ None → NoneFree w B t ds
    unfolding place_for
    no_place_law e q f = not_free q (found_none (free w B t ds) (suc (length w)) B e q f.low (omega (arith, f.high))) f

    -- a start that is not free fails the test
    go_false : (j : ℕ) (b : Bool) → free w B t ds j ≡ b → (Free w B t ds j → ⊥) → free w B t ds j ≡ false
    go_false j true e none = absurd (none (free_law j e))
    go_false j false e none = e

    -- and back: where no start is free none is found
    pub law_no_place : NoneFree w B t ds → place_for w B t ds ≡ None
    unfolding place_for
    law_no_place none = lowest_none (free w B t ds) (suc (length w)) B (λ j le. go_false j (free w B t ds j) refl (none j))

    -- a start that is free, below which none is, is the place
    pub law_place : (p : ℕ) → LowestFree w B t ds p → place_for w B t ds ≡ Some p
    unfolding place_for
    law_place p l =
        let f = l.free in
        lowest_at (free w B t ds) (suc (length w)) B p f.low (omega (arith, f.high)) (law_free p f)
        (λ j le lt. go_false j (free w B t ds j) refl (l.none_lower j lt))
