-- A record's own words stored: what they leave of each word. Assumes nothing.
use mathlib.Core.Path.{◌≡◌, refl, ◌∙◌}
use mathlib.Core.Logic.{◌⊎◌, inl, inr}
use mathlib.Core.List.{List, [], ◌∷◌, map, Memᴰ}
use Prim.Native.Nat.{ℕ, zero, suc, ◌+◌, ◌%◌, ◌^◌, ◌≤◌, ◌<◌}
use native.Mathlib.Omega.{arith}
use native.Mathlib.Decide.{dec_le}
use lib.ListN.{length, take}
use Rattle.fields.specs.Number.{Bytes, le}
use Rattle.fields.proofs.Put.{read_back}
use Rattle.fields.proofs.Bytes.{le_small, word_apart}
use Rattle.record_stores.specs.Stores.{Store, store}
use Rattle.proof_format_cuts.specs.Area.{after_store, after_stores, Each}
use Rattle.proof_format_cuts.specs.Format.{StoresInside}
use Rattle.proof_format_cuts.proofs.Runs.{store_length}

-- ---- one store
-- a word apart from it is as it was
abbrev pub Apart : ℕ → ℕ → Type 0
Apart o p = (o + 4 ≤ p) ⊎ (p + 4 ≤ o)

pub store_miss : (l : List ℕ) (s : Store) (o : ℕ) → s.0 + 4 ≤ length l → Apart o s.0 → le 4 (after_store l s) o ≡ le 4 l o
unfolding after_store
store_miss l s o h a = word_apart l s.0 s.1 h 4 o a

-- its own word is what was stored
pub store_hit : (l : List ℕ) (o w : ℕ) → o + 4 ≤ length l → w < 2 ^ 32 → le 4 (after_store l (o, w)) o ≡ w
unfolding after_store
store_hit l o w h small = read_back 4 l o w h small

-- ---- stores of the words that r has, at the offsets listed
pub mem-take {ℓ} : {A : Type ℓ} {a : A} (n : ℕ) (xs : List A) → Memᴰ a (take n xs) → Memᴰ a xs
mem-take zero xs m = elim m [ ]
mem-take (suc n) [] m = elim m [ ]
mem-take (suc n) (x ∷ xs) (Memᴰ.head e) = Memᴰ.head e
mem-take (suc n) (x ∷ xs) (Memᴰ.tail m) = Memᴰ.tail (mem-take n xs m)

pub each_store : (P : Store → Type 0) (r os : List ℕ) → ((o : ℕ) → Memᴰ o os → P (store r o)) → Each P (map (store r) os)
each_store P r [] h = tt
each_store P r (o ∷ os) h = (h o (Memᴰ.head refl), each_store P r os (λ p m. h p (Memᴰ.tail m)))

-- a word apart from all of them stays
pub stores_miss : (r l os : List ℕ) (o : ℕ) → StoresInside (length l) (map (store r) os) → ((p : ℕ) → Memᴰ p os → Apart o p)
    → le 4 (after_stores l (map (store r) os)) o ≡ le 4 l o
unfolding after_stores
stores_miss r l [] o k h = refl
stores_miss r l (p ∷ os) o k h =
    stores_miss r (after_store l (store r p)) os o (rw (store_length l (store r p) k.0) k.1) (λ q m. h q (Memᴰ.tail m))
    ∙ store_miss l (store r p) o k.0 (h p (Memᴰ.head refl))

module _ (r : List ℕ) (b : Bytes r) where
  pub word_small : (o : ℕ) → le 4 r o < 2 ^ 32
  word_small o = le_small 4 r o b

  module _ (o : ℕ) (even : o % 4 ≡ 0) where
    -- a word that agrees with r goes on to
    pub store_agree : (l : List ℕ) (p : ℕ) → p % 4 ≡ 0 → p + 4 ≤ length l → le 4 l o ≡ le 4 r o → le 4 (after_store l (store r p)) o ≡ le 4 r o
    store_agree l p e h a = go (dec_le (o + 4) p) (dec_le (p + 4) o)
      where
        go : Dec (o + 4 ≤ p) → Dec (p + 4 ≤ o) → le 4 (after_store l (store r p)) o ≡ le 4 r o
        go (yes x) y = store_miss l (store r p) o h (inl x) ∙ a
        go (no x) (yes y) = store_miss l (store r p) o h (inr y) ∙ a
        go (no x) (no y) = let q : o ≡ p = omega arith in rw q (store_hit l p (le 4 r p) h (word_small p))

    -- and so does one of the words listed
    pub stores_agree : (l os : List ℕ) → StoresInside (length l) (map (store r) os) → ((p : ℕ) → Memᴰ p os → p % 4 ≡ 0)
        → (le 4 l o ≡ le 4 r o) ⊎ Memᴰ o os
        → le 4 (after_stores l (map (store r) os)) o ≡ le 4 r o
    unfolding after_stores
    stores_agree l [] k h (inl a) = a
    stores_agree l [] k h (inr m) = elim m [ ]
    stores_agree l (p ∷ os) k h x =
        stores_agree (after_store l (store r p)) os (rw (store_length l (store r p) k.0) k.1) (λ q m. h q (Memᴰ.tail m)) (step x)
      where
        step : (le 4 l o ≡ le 4 r o) ⊎ Memᴰ o (p ∷ os) → (le 4 (after_store l (store r p)) o ≡ le 4 r o) ⊎ Memᴰ o os
        step (inl a) = inl (store_agree l p (h p (Memᴰ.head refl)) k.0 a)
        step (inr (Memᴰ.head q)) = inl (rw q (store_hit l p (le 4 r p) k.0 (word_small p)))
        step (inr (Memᴰ.tail m)) = inr m
