-- Lists of stores: done in order, cut after n, in the first or the second part of a list of bytes. Assumes nothing.
use mathlib.Core.Path.{◌≡◌, refl, sym, ap, ◌∙◌}
use mathlib.Core.List.{List, [], ◌∷◌, ◌++◌, map, append_assoc}
use Prim.Native.Nat.{ℕ, zero, suc, ◌+◌, ◌-◌, ◌≤◌}
use native.Mathlib.Nat.{add_assoc, zero-sub, sub-zero, suc-sub-suc}
use native.Mathlib.Omega.{arith}
use lib.ListN.{length, take, drop}
use lib.Seq.{take-nil, take-append-le, drop-append-le, take-append-add, drop-append-add}
use Rattle.fields.specs.Number.{Bytes, bytes, put}
use Rattle.fields.proofs.Number.{length_bytes}
use Rattle.fields.proofs.Bytes.{bytes_small, put_bytes, word_length}
use Rattle.record_stores.specs.Stores.{Store, shift}
use Rattle.proof_format_cuts.specs.Area.{after_store, after_stores, Each}
use Rattle.proof_format_cuts.specs.Format.{StoresInside}

-- ---- the first n of a list
take-append {ℓ} : {A : Type ℓ} (n : ℕ) (xs ys : List A) → take n (xs ++ ys) ≡ take n xs ++ take (n - length xs) ys
take-append n [] ys = rw (take-nil n, sub-zero)
take-append zero (x ∷ xs) ys = rw zero-sub
take-append (suc n) (x ∷ xs) ys = rw suc-sub-suc (ap (λ l. x ∷ l) (take-append n xs ys))

pub take-map {ℓ κ} : {A : Type ℓ} {B : Type κ} (f : A → B) (n : ℕ) (xs : List A) → take n (map f xs) ≡ map f (take n xs)
take-map f zero xs = refl
take-map f (suc n) [] = refl
take-map f (suc n) (x ∷ xs) = ap (λ l. f x ∷ l) (take-map f n xs)

-- ---- each store of a list
module _ (P : Store → Type 0) where
  pub each_take : (n : ℕ) (ss : List Store) → Each P ss → Each P (take n ss)
  each_take zero ss p = tt
  each_take (suc n) [] p = tt
  each_take (suc n) (s ∷ ss) p = (p.0, each_take n ss p.1)

  pub each_append : (ss ts : List Store) → Each P ss → Each P ts → Each P (ss ++ ts)
  each_append [] ts p q = q
  each_append (s ∷ ss) ts p q = (p.0, each_append ss ts p.1 q)

  pub each_map : (f : Store → Store) (ss : List Store) → Each (λ s. P (f s)) ss → Each P (map f ss)
  each_map f [] p = tt
  each_map f (s ∷ ss) p = (p.0, each_map f ss p.1)

pub each_weaken : (P Q : Store → Type 0) (ss : List Store) → ((s : Store) → P s → Q s) → Each P ss → Each Q ss
each_weaken P Q [] f p = tt
each_weaken P Q (s ∷ ss) f p = (f s p.0, each_weaken P Q ss f p.1)

pub inside_take : (h n : ℕ) (ss : List Store) → StoresInside h ss → StoresInside h (take n ss)
inside_take h n ss i = each_take (λ s. s.0 + 4 ≤ h) n ss i

pub inside_more : (g h : ℕ) (ss : List Store) → g ≤ h → StoresInside g ss → StoresInside h ss
inside_more g h ss k i = each_weaken (λ s. s.0 + 4 ≤ g) (λ s. s.0 + 4 ≤ h) ss (λ s p. omega arith) i

-- ---- stores are done in order, and bytes stay bytes
pub stores_append : (l : List ℕ) (ss ts : List Store) → after_stores l (ss ++ ts) ≡ after_stores (after_stores l ss) ts
unfolding after_stores
stores_append l [] ts = refl
stores_append l (s ∷ ss) ts = stores_append (after_store l s) ss ts

pub stores_bytes : (l : List ℕ) (ss : List Store) → Bytes l → Bytes (after_stores l ss)
unfolding after_stores after_store
stores_bytes l [] b = b
stores_bytes l (s ∷ ss) b = stores_bytes (after_store l s) ss (put_bytes l s.0 _ b (bytes_small _ _))

-- ---- one store, in the first part of a list or in the second
pub store_length : (l : List ℕ) (s : Store) → s.0 + 4 ≤ length l → length (after_store l s) ≡ length l
unfolding after_store
store_length l s h = word_length l s.0 s.1 h

store_left : (xs ys : List ℕ) (s : Store) → s.0 + 4 ≤ length xs → after_store (xs ++ ys) s ≡ after_store xs s ++ ys
unfolding after_store put
store_left xs ys s h =
    let k : s.0 + length (bytes 4 s.1) ≤ length xs = rw (length_bytes 4 s.1) h in
    let j : s.0 ≤ length xs = omega arith in
    rw (take-append-le, drop-append-le) (sym (append_assoc (take s.0 xs ++ bytes 4 s.1) (drop (s.0 + length (bytes 4 s.1)) xs) ys))

store_right : (xs ys : List ℕ) (o w : ℕ) → after_store (xs ++ ys) (length xs + o, w) ≡ xs ++ after_store ys (o, w)
unfolding after_store put
store_right xs ys o w = rw (take-append-add, add_assoc, drop-append-add) (simp append_assoc)

-- ---- any stores
pub stores_length : (l : List ℕ) (ss : List Store) → StoresInside (length l) ss → length (after_stores l ss) ≡ length l
unfolding after_stores
stores_length l [] i = refl
stores_length l (s ∷ ss) i =
    let e : length (after_store l s) ≡ length l = store_length l s i.0 in
    stores_length (after_store l s) ss (rw e i.1) ∙ e

pub stores_left : (xs ys : List ℕ) (ss : List Store) → StoresInside (length xs) ss → after_stores (xs ++ ys) ss ≡ after_stores xs ss ++ ys
unfolding after_stores
stores_left xs ys [] i = refl
stores_left xs ys (s ∷ ss) i =
    ap (λ l. after_stores l ss) (store_left xs ys s i.0) ∙ stores_left (after_store xs s) ys ss (rw (store_length xs s i.0) i.1)

stores_right : (xs ys : List ℕ) (ss : List Store) → after_stores (xs ++ ys) (map (shift (length xs)) ss) ≡ xs ++ after_stores ys ss
unfolding after_stores
stores_right xs ys [] = refl
stores_right xs ys (s ∷ ss) =
    ap (λ l. after_stores l (map (shift (length xs)) ss)) (store_right xs ys s.0 s.1) ∙ stores_right xs (after_store ys s) ss

-- stores in the first part, then stores in the second, cut after n: each part is cut by itself
pub stores_both : (xs ys : List ℕ) (ss ts : List Store) (n : ℕ) → StoresInside (length xs) ss
    → after_stores (xs ++ ys) (take n (ss ++ map (shift (length xs)) ts)) ≡ after_stores xs (take n ss) ++ after_stores ys (take (n - length ss) ts)
stores_both xs ys ss ts n i =
    let j : StoresInside (length xs) (take n ss) = inside_take (length xs) n ss i in
    let e : length (after_stores xs (take n ss)) ≡ length xs = stores_length xs (take n ss) j in
    rw (take-append n ss, take-map, stores_append, stores_left xs ys (take n ss) j)
    (ap (λ (k : ℕ). after_stores (after_stores xs (take n ss) ++ ys) (map (shift k) (take (n - length ss) ts))) (sym e)
    ∙ stores_right (after_stores xs (take n ss)) ys (take (n - length ss) ts))
