-- Laws of the body: tests of each number below a count, the list of offsets, and the items. Assumes nothing.
use mathlib.Core.Path.{◌≡◌, refl, sym, ap, ◌∙◌}
use mathlib.Core.Bool.{Bool, true, false, ◌&&◌, and-false}
use mathlib.Core.List.{List}
use mathlib.Core.Logic.{⊎_elim}
use Prim.Native.Nat.{ℕ, zero, suc, ◌+◌, ◌*◌, ◌<◌, ◌≤◌}
use native.Mathlib.Numerals.{add-one}
use native.Mathlib.Omega.{arith}
use borrow.Author.Tests.{leb-true, ltb-true, eqb-true, lt-leb, le-ltb}
use lib.Dec.{leb, ltb, eqb}
use lib.ListN.{length}
use Rattle.fields.specs.Number.{le}
use Rattle.fields.proofs.Tests.{both, le_or_lt}
use Rattle.capsule_body.specs.Body.{all, body_version, items, offset, list_end, rises, offset_right, body_right, item_end}

-- ---- each number below a count
pub all_none : (p : ℕ → Bool) → all p 0 ≡ true
unfolding all
all_none p = refl

pub all_whole : (p : ℕ → Bool) (k n : ℕ) → all p k ≡ true → k ≡ n → true ≡ all p n
all_whole p k n e q = sym (ap (all p) (sym q) ∙ e)

pub all_more : (p : ℕ → Bool) (n : ℕ) → all p n ≡ true → p n ≡ true → all p (n + 1) ≡ true
unfolding all
all_more p n e f = rw add-one (rw (e, f))

pub all_at : (p : ℕ → Bool) (n k : ℕ) → all p n ≡ true → k < n → p k ≡ true
unfolding all
all_at p zero k e lt = absurd (omega arith)
all_at p (suc n) k e lt =
    let h = both (all p n) (p n) e in
    ⊎_elim
    (λ ge.
    let q : k ≡ n = omega arith in
    rw q h.1)
    (λ below. all_at p n k h.0 below)
    (le_or_lt n k)

pub all_each : (p : ℕ → Bool) (n : ℕ) → ((k : ℕ) → k < n → p k ≡ true) → all p n ≡ true
unfolding all
all_each p zero h = refl
all_each p (suc n) h = rw (all_each p n (λ k lt. h k (omega arith)), h n (omega arith))

pub all_fails : (p : ℕ → Bool) (n k : ℕ) → k < n → p k ≡ false → all p n ≡ false
all_fails p n k lt f = go (all p n) refl
  where
    go : (t : Bool) → all p n ≡ t → t ≡ false
    go true e = sym (all_at p n k e lt) ∙ f
    go false e = refl

-- ---- the offset before
pub rises_first : (b : List ℕ) (k : ℕ) → k ≡ 0 → rises b k ≡ true
unfolding rises
rises_first b zero e = refl
rises_first b (suc k) e = absurd (omega arith)

pub rises_next : (b : List ℕ) (k : ℕ) → (k ≡ 0 → ⊥) → rises b k ≡ ltb (le 8 b (8 * k)) (offset b k)
unfolding rises offset
rises_next b zero ne = absurd (ne refl)
rises_next b (suc k) ne =
    let e : 8 * suc k ≡ 8 + 8 * k = omega arith in
    rw e

-- ---- a body that is right
module _ (b : List ℕ) where
  -- a list that runs past the body has an offset at fault
  pub list_outside : 8 ≤ length b → length b < list_end b → all (offset_right b) (items b) ≡ false
  unfolding offset_right
  list_outside e h = all_fails (offset_right b) (items b) 0 (omega arith) first
    where
      first : offset_right b 0 ≡ false
      first =
          ⊎_elim
          (λ le. simp (le-ltb (offset b 0) (length b) (omega arith), and-false))
          (λ lt. simp (lt-leb (list_end b) (offset b 0) lt))
          (le_or_lt (list_end b) (offset b 0))

  module _ (right : body_right b ≡ true) where
    parts : (leb 8 (length b) ≡ true) × (leb (items b) 64 ≡ true) × (all (offset_right b) (items b) ≡ true)
    unfolding body_right
    parts =
        let x = both (leb 8 (length b) && eqb (body_version b) 1 && leb (items b) 64) (all (offset_right b) (items b)) right in
        let y = both (leb 8 (length b) && eqb (body_version b) 1) (leb (items b) 64) x.0 in
        let z = both (leb 8 (length b)) (eqb (body_version b) 1) y.0 in
        (z.0, y.1, x.1)

    pub version_one : body_version b ≡ 1
    unfolding body_right
    version_one =
        let x = (both (leb 8 (length b) && eqb (body_version b) 1 && leb (items b) 64) (all (offset_right b) (items b)) right).0 in
        let y = (both (leb 8 (length b) && eqb (body_version b) 1) (leb (items b) 64) x).0 in
        eqb-true (body_version b) 1 (both (leb 8 (length b)) (eqb (body_version b) 1) y).1

    pub counts_fit : 8 ≤ length b
    counts_fit = leb-true 8 (length b) parts.0

    pub few_items : items b ≤ 64
    few_items = leb-true (items b) 64 parts.1

    -- what is known of each offset
    tests : (k : ℕ) → k < items b → (leb (list_end b) (offset b k) ≡ true) × (ltb (offset b k) (length b) ≡ true) × (rises b k ≡ true)
    unfolding offset_right
    tests k lt =
        let r = all_at (offset_right b) (items b) k parts.2 lt in
        let x = both (leb (list_end b) (offset b k) && ltb (offset b k) (length b)) (rises b k) r in
        let y = both (leb (list_end b) (offset b k)) (ltb (offset b k) (length b)) x.0 in
        (y.0, y.1, x.1)

    pub offset_low : (k : ℕ) → k < items b → list_end b ≤ offset b k
    offset_low k lt = leb-true (list_end b) (offset b k) (tests k lt).0

    pub offset_high : (k : ℕ) → k < items b → offset b k < length b
    offset_high k lt = ltb-true (offset b k) (length b) (tests k lt).1

    pub offset_rises : (k : ℕ) → k + 1 < items b → offset b k < offset b (k + 1)
    unfolding rises
    offset_rises k lt = rw add-one (ltb-true (offset b k) (offset b (suc k)) (tests (suc k) (rw add-one at lt)).2)

    -- the list of offsets lies in the body
    pub list_fits : list_end b ≤ length b
    list_fits =
        ⊎_elim
        (λ none. omega (arith, counts_fit))
        (λ some. omega (arith, offset_low 0 (omega arith), offset_high 0 (omega arith)))
        (le_or_lt (items b) 0)

    -- an item holds at least a byte, and ends in the body
    pub item_in : (k : ℕ) → k < items b → (offset b k < item_end b k) × (item_end b k ≤ length b)
    unfolding item_end
    item_in k lt = go (ltb (k + 1) (items b)) refl
      where
        go : (t : Bool) → ltb (k + 1) (items b) ≡ t → (offset b k < item_end b k) × (item_end b k ≤ length b)
        go true e =
            let n = ltb-true (k + 1) (items b) e in
            rw e (offset_rises k n, omega (arith, offset_high (k + 1) n))
        go false e = rw e (offset_high k lt, omega arith)
