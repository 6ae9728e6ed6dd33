-- What `gathered` gives is what specs/Law.antt says, and it gives it wherever that says so. Assumes nothing.
use mathlib.Core.Path.{◌≡◌, refl, sym, ap, ◌∙◌}
use mathlib.Core.Bool.{Bool, true, false, cond}
use mathlib.Core.List.{List}
use mathlib.Core.Logic.{inl, inr, ⊎_elim}
use Prim.Native.Nat.{ℕ, ◌+◌, ◌-◌, ◌≤◌, ◌<◌}
use native.Mathlib.Omega.{arith}
use borrow.Author.Tests.{eqb-true, eqb-false}
use lib.Dec.{eqb}
use lib.ListN.{length}
use Rattle.std.specs.Prelude.{Option, Some, None}
use Rattle.fields.specs.Number.{put}
use Rattle.fields.proofs.Tests.{positive}
use Rattle.fields.proofs.Put.{put_length, put_inside, put_outside}
use Rattle.refusals.specs.Number.{number_of}
use Rattle.refusals.proofs.Number.{number_positive}
use Rattle.refusals.specs.declared.Refusal.{Refusal}
use Rattle.refusals.specs.declared.Refusal.TheVariants.{DescriptorCount, TotalLength, TotalZero}
use Rattle.gather_descriptors.specs.Reading.{Reading, refused, whole, reading}
use Rattle.gather_descriptors.specs.Law.{Faultless}
use Rattle.gather_descriptors.specs.Scratch.{lengths}
use Rattle.gather_descriptors.proofs.Whole.{found, refused_early, whole_law, law_whole, fault_law, law_fault, loop_law}
use Rattle.gather_place.specs.Place.{place_for}
use Rattle.gather_place.specs.Law.{LowestFree, NoneFree}
use Rattle.gather_place.proofs.Law.{place_law, no_place_law, law_place, law_no_place}
use Rattle.gather_blocks.specs.Blocks.{blocks}
use Rattle.gather.specs.Gather.{Answer, refusal, place, copied_to, finished, gathered}
use Rattle.gather.specs.Law.{Succeeded, WasEmpty, HadNoPlace, HadFault, ListRefusals}
use Rattle.gather_blocks.proofs.Copy.{blocks_length}
use Rattle.gather.proofs.Ends.{total_zero, no_place, at_place, list_refused, list_whole}

abbrev Outcome : Type 0
Outcome = Answer × List ℕ

-- the two parts of an outcome
parts : (x y : Outcome) → x ≡ y → (x.0 ≡ y.0) × (x.1 ≡ y.1)
parts x y e = (ap {B = Answer} (λ (z : Outcome). z.0) e, ap {B = List ℕ} (λ (z : Outcome). z.1) e)

not_placed : (n : ℕ) (w w' : List ℕ) (p t : ℕ) → ◌≡◌ {A = Outcome} (refusal n, w) (place p t, w') → ⊥
not_placed n w w' p t x =
    let a = (parts (refusal n, w) (place p t, w') x).0 in
    let z : ◌≡◌ {A = ℕ} 0 1 = cc in
    omega arith

not_refused : (n : ℕ) (w w' : List ℕ) (p t : ℕ) → ◌≡◌ {A = Outcome} (place p t, w) (refusal n, w') → ⊥
not_refused n w w' p t x =
    let a = (parts (place p t, w) (refusal n, w') x).0 in
    let z : ◌≡◌ {A = ℕ} 0 1 = cc in
    omega arith

-- a refusal's number and window
same_refusal : (n m : ℕ) (w w' : List ℕ) → ◌≡◌ {A = Outcome} (refusal n, w) (refusal m, w') → (n ≡ m) × (w ≡ w')
same_refusal n m w w' x =
    let a = parts (refusal n, w) (refusal m, w') x in
    let b : refusal n ≡ refusal m = a.0 in
    (cc, a.1)

module _ (w : List ℕ) (B first : ℕ) where
  -- the four ways to an outcome
  data Way : Outcome → Type 0 where
    by_list : (n : Refusal) → reading w B first ≡ refused n → Way (refusal (number_of n), w)
    by_total : (t : ℕ) (ds : List ℕ) → reading w B first ≡ whole t ds → t ≡ 0 → Way (refusal 6, w)
    by_no_place : (t : ℕ) (ds : List ℕ) → reading w B first ≡ whole t ds → 0 < t → place_for w B t ds ≡ None → Way (refusal 7, w)
    by_place : (t : ℕ) (ds : List ℕ) (q : ℕ) → reading w B first ≡ whole t ds → 0 < t → place_for w B t ds ≡ Some q
        → Way (place q t, put w (q - B) (blocks w B ds))

  way_at : (t : ℕ) (ds : List ℕ) (X : Option ℕ) → reading w B first ≡ whole t ds → 0 < t → place_for w B t ds ≡ X
      → Way (copied_to X w B t ds)
  unfolding copied_to
  way_at t ds (Some q) r some e = by_place t ds q r some e
  way_at t ds None r some e = by_no_place t ds r some e

  way_of : (t : ℕ) (ds : List ℕ) (b : Bool) → reading w B first ≡ whole t ds → eqb t 0 ≡ b
      → Way (cond b (refusal (number_of TotalZero), w) (copied_to (place_for w B t ds) w B t ds))
  way_of t ds true r e = by_total t ds r (eqb-true t 0 e)
  way_of t ds false r e = way_at t ds (place_for w B t ds) r (positive t (eqb-false t 0 e)) refl

  way_from : (X : Reading) → reading w B first ≡ X → Way (finished w B X)
  unfolding finished
  way_from (refused n) r = by_list n r
  way_from (whole t ds) r = way_of t ds (eqb t 0) r refl

  way : Way (gathered w B first)
  unfolding gathered
  way = way_from (reading w B first) refl

  -- at the place
  success : (t : ℕ) (ds : List ℕ) (q : ℕ) → reading w B first ≡ whole t ds → 0 < t → place_for w B t ds ≡ Some q
      → Succeeded w B first q t (put w (q - B) (blocks w B ds))
  success t ds q r some e =
      let f = whole_law w B first t ds r in
      let g = found w B first t ds r in
      let l = place_law w B t ds some q e in
      let size : length (blocks w B ds) ≡ t = blocks_length w B ds g.readable ∙ sym g.total in
      let fits : q - B + length (blocks w B ds) ≤ length w = omega (arith, l.free.low, l.free.high) in
      record {
        descriptors = ds;
        list = f.0;
        sum = f.1;
        some = some;
        lowest = l;
        size = size;
        length_kept = put_length w (q - B) (blocks w B ds) fits;
        at_place = λ k lt. put_inside w (q - B) (blocks w B ds) fits k (omega arith);
        outside = λ i o. put_outside w (q - B) (blocks w B ds) fits i (rw size o);
      }

  moved : (q t p total : ℕ) (v w' : List ℕ) → ◌≡◌ {A = Outcome} (place q t, v) (place p total, w') → Succeeded w B first q t v
      → Succeeded w B first p total w'
  moved q t p total v w' x s =
      let y = parts (place q t, v) (place p total, w') x in
      let a : place q t ≡ place p total = y.0 in
      let b : v ≡ w' = y.1 in
      let eq : q ≡ p = cc in
      let et : t ≡ total = cc in
      rw (← eq, ← et, ← b) s

  if_placed : (o : Outcome) (p total : ℕ) (w' : List ℕ) → Way o → o ≡ (place p total, w') → Succeeded w B first p total w'
  if_placed o p total w' (by_list n r) x = absurd (not_placed (number_of n) w w' p total x)
  if_placed o p total w' (by_total t ds r z) x = absurd (not_placed 6 w w' p total x)
  if_placed o p total w' (by_no_place t ds r some e) x = absurd (not_placed 7 w w' p total x)
  if_placed o p total w' (by_place t ds q r some e) x = moved q t p total (put w (q - B) (blocks w B ds)) w' x (success t ds q r some e)

  -- a place is answered only so
  pub success_law : (p total : ℕ) (w' : List ℕ) → gathered w B first ≡ (place p total, w') → Succeeded w B first p total w'
  success_law p total w' x = if_placed (gathered w B first) p total w' way x

  if_6 : (o : Outcome) (w' : List ℕ) → Way o → o ≡ (refusal 6, w') → WasEmpty w B first w'
  if_6 o w' (by_list n r) x = absurd (omega (arith, (same_refusal (number_of n) 6 w w' x).0, refused_early w B first n r))
  if_6 o w' (by_total t ds r z) x =
      let f = whole_law w B first t ds r in
      record { descriptors = ds; list = f.0; zero = sym f.1 ∙ z; unchanged = sym (same_refusal 6 6 w w' x).1 }
  if_6 o w' (by_no_place t ds r some e) x = absurd (omega (arith, (same_refusal 7 6 w w' x).0))
  if_6 o w' (by_place t ds q r some e) x = absurd (not_refused 6 (put w (q - B) (blocks w B ds)) w' q t x)

  -- 6 is answered only where the lengths of a faultless list add up to 0
  pub refusal_6_law : (w' : List ℕ) → gathered w B first ≡ (refusal 6, w') → WasEmpty w B first w'
  refusal_6_law w' x = if_6 (gathered w B first) w' way x

  if_7 : (o : Outcome) (w' : List ℕ) → Way o → o ≡ (refusal 7, w') → HadNoPlace w B first w'
  if_7 o w' (by_list n r) x = absurd (omega (arith, (same_refusal (number_of n) 7 w w' x).0, refused_early w B first n r))
  if_7 o w' (by_total t ds r z) x = absurd (omega (arith, (same_refusal 6 7 w w' x).0))
  if_7 o w' (by_no_place t ds r some e) x =
      let f = whole_law w B first t ds r in
      let none : NoneFree w B t ds = no_place_law w B t ds some e in
      record {
        descriptors = ds;
        list = f.0;
        some = rw f.1 at some;
        none = rw f.1 at none;
        unchanged = sym (same_refusal 7 7 w w' x).1;
      }
  if_7 o w' (by_place t ds q r some e) x = absurd (not_refused 7 (put w (q - B) (blocks w B ds)) w' q t x)

  -- 7 is answered only where no place exists
  pub refusal_7_law : (w' : List ℕ) → gathered w B first ≡ (refusal 7, w') → HadNoPlace w B first w'
  refusal_7_law w' x = if_7 (gathered w B first) w' way x

  if_fault : (o : Outcome) (n : ℕ) (w' : List ℕ) → n ≤ 5 → Way o → o ≡ (refusal n, w') → HadFault w B first n w'
  if_fault o n w' few (by_list m r) x =
      let e = same_refusal (number_of m) n w w' x in
      record { fault = m; numbered = e.0; answered = fault_law w B first m r; unchanged = sym e.1 }
  if_fault o n w' few (by_total t ds r z) x = absurd (omega (arith, (same_refusal 6 n w w' x).0))
  if_fault o n w' few (by_no_place t ds r some e) x = absurd (omega (arith, (same_refusal 7 n w w' x).0))
  if_fault o n w' few (by_place t ds q r some e) x = absurd (not_refused n (put w (q - B) (blocks w B ds)) w' q t x)

  -- 1 to 5, and a list that comes back to a descriptor
  pub list_refusals : ListRefusals w B first
  list_refusals =
      record {
        only = λ n w' few x. if_fault (gathered w B first) n w' few way x;
        there = λ n f. sym (list_refused w B first n (law_fault w B first n f));
        loop = λ k.
            ⊎_elim
            (λ e. inl (sym (list_refused w B first DescriptorCount e)))
            (λ e. inr (sym (list_refused w B first TotalLength e)))
            (loop_law w B first k);
      }

  if_refused : (o : Outcome) (n : ℕ) (w' : List ℕ) → Way o → o ≡ (refusal n, w') → w' ≡ w
  if_refused o n w' (by_list m r) x = sym (same_refusal (number_of m) n w w' x).1
  if_refused o n w' (by_total t ds r z) x = sym (same_refusal 6 n w w' x).1
  if_refused o n w' (by_no_place t ds r some e) x = sym (same_refusal 7 n w w' x).1
  if_refused o n w' (by_place t ds q r some e) x = absurd (not_refused n (put w (q - B) (blocks w B ds)) w' q t x)

  -- a refusal alters no byte (N105)
  pub refusal_law : (n : ℕ) (w' : List ℕ) → gathered w B first ≡ (refusal n, w') → w' ≡ w
  refusal_law n w' x = if_refused (gathered w B first) n w' way x

  if_number : (o : Outcome) (n : ℕ) (w' : List ℕ) → Way o → o ≡ (refusal n, w') → (1 ≤ n) × (n ≤ 7)
  if_number o n w' (by_list m r) x =
      let e = (same_refusal (number_of m) n w w' x).0 in
      (omega (arith, e, number_positive m), omega (arith, e, refused_early w B first m r))
  if_number o n w' (by_total t ds r z) x = let e = (same_refusal 6 n w w' x).0 in (omega (arith, e), omega (arith, e))
  if_number o n w' (by_no_place t ds r some q) x = let e = (same_refusal 7 n w w' x).0 in (omega (arith, e), omega (arith, e))
  if_number o n w' (by_place t ds q r some e) x = absurd (not_refused n (put w (q - B) (blocks w B ds)) w' q t x)

  -- a refusal's number is one of 1 to 7, so that 0 can stand for none
  pub refusal_numbers : (n : ℕ) (w' : List ℕ) → gathered w B first ≡ (refusal n, w') → (1 ≤ n) × (n ≤ 7)
  refusal_numbers n w' x = if_number (gathered w B first) n w' way x

  -- and back: a faultless list is refused by 6 where its total is 0, else gathered at its lowest free start, else
  -- refused by 7
  module _ (ds : List ℕ) (f : Faultless w B first ds) where
    abbrev t : ℕ
    t = lengths w B ds

    from_list : finished w B (whole t ds) ≡ gathered w B first
    from_list = list_whole w B first (whole t ds) (law_whole w B first ds f)

    pub law_refusal_6 : t ≡ 0 → gathered w B first ≡ (refusal 6, w)
    law_refusal_6 z = sym (total_zero w B t ds z ∙ from_list)

    pub law_success : 0 < t → (p : ℕ) → LowestFree w B t ds p → gathered w B first ≡ (place p t, put w (p - B) (blocks w B ds))
    law_success some p l = sym (at_place w B t ds p (λ z. absurd (omega arith)) (law_place w B t ds some p l) ∙ from_list)

    pub law_refusal_7 : 0 < t → NoneFree w B t ds → gathered w B first ≡ (refusal 7, w)
    law_refusal_7 some none = sym (no_place w B t ds (λ z. absurd (omega arith)) (law_no_place w B t ds some none) ∙ from_list)
