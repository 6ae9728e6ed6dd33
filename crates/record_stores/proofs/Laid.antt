-- Stores added to a list in a slice, one behind the other. Assumes nothing.
use mathlib.Core.Path.{◌≡◌, refl, sym, ap, ◌∙◌}
use mathlib.Core.Bool.{Bool, true, false, cond}
use mathlib.Core.List.{List, [], ◌∷◌, ◌++◌, map, append_assoc, append-nil, map-append}
use Prim.Native.Nat.{ℕ, zero, suc, ◌+◌, ◌*◌, ◌-◌, ◌/◌, ◌≤◌}
use native.Mathlib.Numerals.{add-one}
use native.Mathlib.Omega.{arith}
use lib.Dec.{eqb}
use lib.ListN.{length, drop, set, length-set, length-append, length-drop}
use lib.Seq.{sets-eq, take_at, drop_at, drop-drop}
use Rattle.fields.specs.Number.{le}
use Rattle.record_stores.specs.Stores.{Store, store, shift, offsets, other_words, differing, writes, plan, numbers_of, with_list}
use Rattle.record_stores.specs.Added.{Added, word_store, stored}

pub length_numbers_of : (ss : List Store) → length (numbers_of ss) ≡ 2 * length ss
unfolding numbers_of
length_numbers_of [] = refl
length_numbers_of (s ∷ ss) = omega (arith, length_numbers_of ss)

numbers_of_snoc : (ss : List Store) (o w : ℕ) → numbers_of (ss ++ ((o, w) ∷ [])) ≡ numbers_of ss ++ (o ∷ w ∷ [])
unfolding numbers_of
numbers_of_snoc [] o w = refl
numbers_of_snoc (s ∷ ss) o w = ap {B = List ℕ} (λ l. s.0 ∷ s.1 ∷ l) (numbers_of_snoc ss o w)

pub with_list_none : (d : List ℕ) → with_list d [] ≡ d
unfolding with_list numbers_of
with_list_none d = refl

length_with_list : (d : List ℕ) (ss : List Store) → 2 * length ss ≤ length d → length (with_list d ss) ≡ length d
unfolding with_list
length_with_list d ss h = rw (length-append, length_numbers_of, length-drop) (omega arith)

-- one store more
with_list_snoc : (d : List ℕ) (ss : List Store) (o w : ℕ) → 2 * length ss + 2 ≤ length d
    → set (set (with_list d ss) (2 * length ss) o) (2 * length ss + 1) w ≡ with_list d (ss ++ ((o, w) ∷ []))
unfolding with_list
with_list_snoc d ss o w h =
    let k : 2 * length ss ≤ length d = omega arith in
    let e : length (numbers_of ss) ≡ 2 * length ss = length_numbers_of ss in
    ap (λ (k : ℕ). set (set (with_list d ss) (2 * length ss) o) k w) (add-one (2 * length ss))
    ∙ sets-eq (o ∷ w ∷ []) (with_list d ss) (2 * length ss) (rw (length_with_list d ss) (omega arith))
    ∙ ap (λ (l : List ℕ). l ++ (o ∷ w ∷ []) ++ drop (2 * length ss + 2) (with_list d ss)) (take_at (numbers_of ss) (drop (2 * length ss)
    d) (2 * length ss) e)
    ∙ ap (λ (l : List ℕ). numbers_of ss ++ (o ∷ w ∷ []) ++ l)
    (sym (drop-drop 2 (2 * length ss) (with_list d ss)) ∙ ap (drop 2) (drop_at (numbers_of ss) (drop (2 * length ss) d) (2 * length ss)
    e) ∙ drop-drop 2 (2 * length ss) d)
    ∙ ap (λ (l : List ℕ). l ++ drop (2 * length ss + 2) d) (sym (numbers_of_snoc ss o w))
    ∙ ap (λ (j : ℕ). numbers_of (ss ++ ((o, w) ∷ [])) ++ drop j d)
    (let z : 2 * length ss + 2 ≡ 2 * length (ss ++ ((o, w) ∷ [])) = rw length-append (omega arith) in z)

pub added_none : (k : ℕ) (out : List ℕ) → Added k k [] out out
added_none k out = record { count = omega arith; kept = refl; adds = λ d ss n l e. rw append-nil e }

pub added_one : (k : ℕ) (out : List ℕ) (o w : ℕ) → 2 * k + 2 ≤ length out
    → Added k (k + 1) ((o, w) ∷ []) out (set (set out (2 * k) o) (2 * k + 1) w)
added_one k out o w h =
    record {
      count = refl;
      kept = simp length-set;
      adds = λ d ss n l e.
          ap (λ (z : List ℕ). set (set z (2 * k) o) (2 * k + 1) w) e
          ∙ ap (λ (j : ℕ). set (set (with_list d ss) (2 * j) o) (2 * j + 1) w) (sym n)
          ∙ with_list_snoc d ss o w (omega arith);
    }

pub added_then : (k m n : ℕ) (ts us : List Store) (a b c : List ℕ) → Added k m ts a b → Added m n us b c → Added k n (ts ++ us) a c
added_then k m n ts us a b c p q =
    record {
      count = omega (arith, p.count, q.count, length-append ts us);
      kept = q.kept ∙ p.kept;
      adds = λ d ss z l e.
          q.adds d (ss ++ ts) (length-append ss ts ∙ omega (arith, p.count)) (l ∙ sym p.kept) (p.adds d ss z l e)
          ∙ ap (with_list d) (append_assoc ss ts us);
    }

-- from the slice's front on
pub added_all : (n : ℕ) (ts : List Store) (out new : List ℕ) → Added 0 n ts out new → (n ≡ length ts) × (new ≡ with_list out ts)
added_all n ts out new p = (omega (arith, p.count), p.adds out [] refl refl (sym (with_list_none out)))

-- the offsets at which a copy differs
module _ (c r : List ℕ) where
  pub differing_append : (xs ys : List ℕ) → differing c r (xs ++ ys) ≡ differing c r xs ++ differing c r ys
  unfolding differing
  differing_append [] ys = refl
  differing_append (x ∷ xs) ys = go (eqb (le 4 c x) (le 4 r x)) (differing_append xs ys)
    where
      go : (b : Bool) → differing c r (xs ++ ys) ≡ differing c r xs ++ differing c r ys
          → cond b (differing c r (xs ++ ys)) (x ∷ differing c r (xs ++ ys)) ≡ cond b (differing c r xs) (x ∷ differing c r xs) ++
          differing c r ys
      go true e = e
      go false e = ap {B = List ℕ} (λ l. x ∷ l) e

  pub stored_append : (base : ℕ) (xs ys : List ℕ) → stored base c r (xs ++ ys) ≡ stored base c r xs ++ stored base c r ys
  stored_append base xs ys = rw (differing_append xs ys, map-append, map-append)

-- one offset
pub stored_one : (base : ℕ) (c r : List ℕ) (o : ℕ) → word_store base o (le 4 c o) (le 4 r o) ≡ stored base c r (o ∷ [])
unfolding word_store differing
stored_one base c r o = go (eqb (le 4 c o) (le 4 r o))
  where
    go : (b : Bool) → cond {A = List Store} b [] ((base + o, le 4 r o) ∷ []) ≡ map (shift base) (map (store r) (cond b [] (o ∷ [])))
    go true = refl
    go false = refl

offsets_snoc : (o n : ℕ) → offsets o (suc n) ≡ offsets o n ++ ((o + 4 * n) ∷ [])
unfolding offsets
offsets_snoc o zero = ap {B = List ℕ} (λ k. k ∷ []) (let z : o ≡ o + 4 * 0 = omega arith in z)
offsets_snoc o (suc n) =
    ap {B = List ℕ} (λ l. o ∷ l)
    (offsets_snoc (o + 4) n ∙ ap {B = List ℕ} (λ k. offsets (o + 4) n ++ (k ∷ [])) (let z : o + 4 + 4 * n ≡ o + 4 * suc n = omega arith
    in z))

-- one offset more
pub offsets_more : (n m : ℕ) → m ≡ 8 + 4 * n → offsets 8 (n + 1) ≡ offsets 8 n ++ (m ∷ [])
offsets_more n m e = rw (add-one, e) (offsets_snoc 8 n)

pub offsets_none : (c r : List ℕ) (base : ℕ) → stored base c r (offsets 8 0) ≡ []
unfolding offsets differing
offsets_none c r base = refl

-- a turn of the loop, which stands behind m words from 8 on
pub added_more : (base : ℕ) (c r : List ℕ) (k j n m o : ℕ) (out new last : List ℕ) → o ≡ 8 + 4 * m
    → Added k j (stored base c r (offsets 8 m)) out new
    → Added j n (stored base c r (o ∷ [])) new last
    → Added k n (stored base c r (offsets 8 (m + 1))) out last
added_more base c r k j n m o out new last e p q =
    rw (offsets_more m o e, stored_append c r base (offsets 8 m) (o ∷ []))
    (added_then k j n (stored base c r (offsets 8 m)) (stored base c r (o ∷ [])) out new last p q)

-- the whole plan, in its parts
pub plan_parts : (base : ℕ) (c r : List ℕ)
    → plan base c r
    ≡ ((base + 4, 0) ∷ []) ++ (stored base c r (0 ∷ []) ++ (stored base c r (offsets 8 (length r / 4 - 2)) ++ ((base + 4, le 4 r 4) ∷ [])))
unfolding plan writes other_words
plan_parts base c r =
    let os = offsets 8 (length r / 4 - 2) in
    rw (map-append (shift base) (map (store r) (differing c r (0 ∷ os))) (store r 4 ∷ []), stored_append c r base (0 ∷ []) os, append_assoc)
