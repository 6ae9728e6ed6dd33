-- The product's list of stores writes a record over a copy as crates/proof_format_cuts asks: the version's word 0
-- first, the words that differ, the version's word last. Assumes nothing.
use mathlib.Core.Path.{◌≡◌, refl, sym, ap, ◌∙◌}
use mathlib.Core.Logic.{◌⊎◌, inl, inr, ⊎_elim}
use mathlib.Core.Bool.{Bool, true, false, cond}
use mathlib.Core.List.{List, [], ◌∷◌, ◌++◌, map, Memᴰ}
use Prim.Native.Nat.{ℕ, zero, suc, ◌+◌, ◌*◌, ◌-◌, ◌/◌, ◌%◌, ◌≤◌, ◌<◌}
use native.Mathlib.Omega.{arith}
use native.Mathlib.Decide.{dec_le}
use borrow.Author.Tests.{eqb-true}
use lib.Dec.{eqb}
use lib.ListN.{length, take, drop, get_or, length-append, take-append-drop}
use lib.Seq.{take-append-le, get_or-take, length-take-le}
use Rattle.fields.specs.Number.{Bytes, le}
use Rattle.fields.proofs.Number.{le_same}
use Rattle.fields.proofs.Bytes.{take_bytes, words_same}
use Rattle.record_layout.specs.Layout.{version_at}
use Rattle.record_stores.specs.Stores.{Store, store, offsets, other_words, differing, writes}
use Rattle.proof_format_cuts.specs.Area.{after_store, after_stores, after_cut, Each}
use Rattle.proof_format_cuts.specs.Format.{StoresInside, over}
use Rattle.proof_format_cuts.proofs.Runs.{take-map, inside_take, each_append, store_length, stores_length, stores_bytes, stores_append, stores_left}
use Rattle.proof_record_cuts.proofs.Words.{Apart, store_miss, store_hit, mem-take, each_store, stores_miss, word_small, store_agree, stores_agree}

-- ---- offsets one word apart
offsets_at : (o n p : ℕ) → Memᴰ p (offsets o n) → (o ≤ p) × (p + 4 ≤ o + 4 * n) × (p % 4 ≡ o % 4)
unfolding offsets
offsets_at o zero p m = elim m [ ]
offsets_at o (suc n) p (Memᴰ.head e) = (omega arith, omega arith, rw e refl)
offsets_at o (suc n) p (Memᴰ.tail m) =
    let q = offsets_at (o + 4) n p m in
    (omega (arith, q.0), omega (arith, q.1), omega (arith, q.2))

offsets_mem : (o n p : ℕ) → o ≤ p → p + 4 ≤ o + 4 * n → p % 4 ≡ o % 4 → Memᴰ p (offsets o n)
unfolding offsets
offsets_mem o zero p lo hi e = absurd (omega arith)
offsets_mem o (suc n) p lo hi e = go (dec_le (o + 4) p) (λ k. offsets_mem (o + 4) n p k (omega arith) (omega arith))
  where
    go : Dec (o + 4 ≤ p) → (o + 4 ≤ p → Memᴰ p (offsets (o + 4) n)) → Memᴰ p (o ∷ offsets (o + 4) n)
    go (yes k) f = Memᴰ.tail (f k)
    go (no k) f = let q : p ≡ o = omega arith in Memᴰ.head q

pub length_offsets : (o n : ℕ) → length (offsets o n) ≡ n
unfolding offsets
length_offsets o zero = refl
length_offsets o (suc n) = ap suc (length_offsets (o + 4) n)

-- ---- the words of a record
-- a whole word of r, apart from the version's
pub record Word (r : List ℕ) (o : ℕ) : Type 0 where
  pub aligned : o % 4 ≡ 0
  pub inside : o + 4 ≤ length r
  pub apart : Apart version_at o

module _ (r : List ℕ) (o : ℕ) (k : 8 ≤ length r) (w : 4 * (length r / 4) ≡ length r) where
  pub other_word : Memᴰ o (other_words r) → Word r o
  unfolding other_words
  other_word (Memᴰ.head e) = record { aligned = rw e refl; inside = omega arith; apart = inr (omega arith) }
  other_word (Memᴰ.tail m) =
      let q = offsets_at 8 (length r / 4 - 2) o m in
      record { aligned = q.2; inside = omega (arith, q.1); apart = inl q.0 }

  -- each is the version's or another
  every_word : o % 4 ≡ 0 → o + 4 ≤ length r → (o ≡ version_at) ⊎ Memᴰ o (other_words r)
  unfolding other_words
  every_word e h = go (dec_le 8 o) (dec_le 4 o)
    where
      go : Dec (8 ≤ o) → Dec (4 ≤ o) → (o ≡ version_at) ⊎ Memᴰ o (0 ∷ offsets 8 (length r / 4 - 2))
      go (yes p) q = inr (Memᴰ.tail (offsets_mem 8 (length r / 4 - 2) o p (omega arith) e))
      go (no p) (yes q) = inl (omega arith)
      go (no p) (no q) = let z : o ≡ 0 = omega arith in inr (Memᴰ.head z)

-- ---- the words that differ; what is left out is equal already
module _ (c r : List ℕ) where
  abbrev keep : Bool → ℕ → List ℕ → List ℕ
  keep t o os = cond t os (o ∷ os)

  pub differing_mem : (os : List ℕ) (p : ℕ) → Memᴰ p (differing c r os) → Memᴰ p os
  unfolding differing
  differing_mem [] p m = m
  differing_mem (o ∷ os) p m = go (eqb (le 4 c o) (le 4 r o)) (λ k. differing_mem os p k) m
    where
      go : (t : Bool) → (Memᴰ p (differing c r os) → Memᴰ p os) → Memᴰ p (keep t o (differing c r os)) → Memᴰ p (o ∷ os)
      go true f m = Memᴰ.tail (f m)
      go false f (Memᴰ.head e) = Memᴰ.head e
      go false f (Memᴰ.tail m) = Memᴰ.tail (f m)

  abbrev Equal : ℕ → Type 0
  Equal p = le 4 c p ≡ le 4 r p

  or_keep : (os : List ℕ) (o p : ℕ) (t : Bool) → Equal p ⊎ Memᴰ p os → Equal p ⊎ Memᴰ p (keep t o os)
  or_keep os o p t (inl e) = inl e
  or_keep os o p true (inr m) = inr m
  or_keep os o p false (inr m) = inr (Memᴰ.tail m)

  or_head : (os : List ℕ) (o p : ℕ) (t : Bool) → eqb (le 4 c o) (le 4 r o) ≡ t → p ≡ o → Equal p ⊎ Memᴰ p (keep t o os)
  or_head os o p true e q = inl (rw q (eqb-true (le 4 c o) (le 4 r o) e))
  or_head os o p false e q = inr (Memᴰ.head q)

  differing_or : (os : List ℕ) (p : ℕ) → Memᴰ p os → Equal p ⊎ Memᴰ p (differing c r os)
  unfolding differing
  differing_or [] p m = elim m [ ]
  differing_or (o ∷ os) p (Memᴰ.head q) = or_head (differing c r os) o p (eqb (le 4 c o) (le 4 r o)) refl q
  differing_or (o ∷ os) p (Memᴰ.tail m) = or_keep (differing c r os) o p (eqb (le 4 c o) (le 4 r o)) (differing_or os p m)

  pub length_differing : (os : List ℕ) → length (differing c r os) ≤ length os
  unfolding differing
  length_differing [] = omega arith
  length_differing (o ∷ os) = go (eqb (le 4 c o) (le 4 r o)) (length_differing os)
    where
      go : (t : Bool) → length (differing c r os) ≤ length os → length (keep t o (differing c r os)) ≤ length (o ∷ os)
      go true h = omega arith
      go false h = omega arith

-- ---- stores at other words of r, between the two at the version's
pub writes_each : (P : Store → Type 0) (r os : List ℕ) → P (version_at, 0) → P (store r version_at) → ((o : ℕ) → Memᴰ o os → P (store r o))
    → Each P (writes r os)
unfolding writes
writes_each P r os first last h = (first, each_append P (map (store r) os) (store r version_at ∷ []) (each_store P r os h) (last, tt))

module _ (l r os : List ℕ) (k : 8 ≤ length r) (f : length r ≤ length l) (words : (o : ℕ) → Memᴰ o os → Word r o) where
  writes_inside : StoresInside (length r) (writes r os)
  writes_inside = writes_each (λ s. s.0 + 4 ≤ length r) r os (omega arith) (omega arith) (λ o m. (words o m).inside)

  abbrev begun : List ℕ
  begun = after_store l (version_at, 0)

  begun_length : length begun ≡ length l
  begun_length = store_length l (version_at, 0) (omega arith)

  middle_inside : StoresInside (length begun) (map (store r) os)
  middle_inside = each_store (λ s. s.0 + 4 ≤ length begun) r os (λ o m. omega (arith, begun_length, (words o m).inside))

  -- cut after some stores and before the last, there is 0 where the version's low byte belongs
  writes_between : (n : ℕ) → 0 < n → n < length (writes r os) → get_or (after_cut l (writes r os) n) version_at 0 ≡ 0
  unfolding writes after_cut after_stores le
  writes_between zero lo hi = absurd (omega arith)
  writes_between (suc n) lo hi =
      let h : n ≤ length (map (store r) os) = omega (arith, simp length-append at hi) in
      let i : StoresInside (length begun) (map (store r) (take n os)) =
      rw (take-map (store r) n os) at (inside_take (length begun) n (map (store r) os) middle_inside) in
      let e : le 4 (after_stores begun (map (store r) (take n os))) version_at ≡ 0 =
      stores_miss r begun (take n os) version_at i (λ o m. (words o (mem-take n os m)).apart)
      ∙ store_hit l version_at 0 (omega arith) (omega arith) in
      rw (take-append-le n (map (store r) os), take-map (store r) n os) (omega (arith, e))

  -- after all of them each word is the record's, where it was one before or is listed
  abbrev middle : List ℕ
  middle = after_stores begun (map (store r) os)

  middle_length : length middle ≡ length l
  middle_length = stores_length begun (map (store r) os) middle_inside ∙ begun_length

  writes_word : (b : Bytes r) (o : ℕ) → o % 4 ≡ 0 → (o ≡ version_at) ⊎ (Word r o × ((le 4 l o ≡ le 4 r o) ⊎ Memᴰ o os))
      → le 4 (after_stores l (writes r os)) o ≡ le 4 r o
  unfolding writes after_stores
  writes_word b o even x =
      ap (λ (z : List ℕ). le 4 z o) (stores_append begun (map (store r) os) (store r version_at ∷ [])) ∙ go x
    where
      fits : version_at + 4 ≤ length middle
      fits = rw middle_length (omega arith)

      kept : Word r o → le 4 l o ≡ le 4 r o → le 4 begun o ≡ le 4 r o
      kept v e = store_miss l (version_at, 0) o (omega arith) (⊎_elim (λ h. inr h) (λ h. inl h) v.apart) ∙ e

      go : (o ≡ version_at) ⊎ (Word r o × ((le 4 l o ≡ le 4 r o) ⊎ Memᴰ o os)) → le 4 (after_store middle (store r version_at)) o ≡ le 4 r o
      go (inl e) = rw e (store_hit middle version_at (le 4 r version_at) fits (word_small r b version_at))
      go (inr y) =
          store_agree r b o even middle version_at refl fits
          (stores_agree r b o even begun os middle_inside (λ p m. (words p m).aligned) (⊎_elim (λ e. inl (kept y.0 e)) (λ m. inr m) y.1))

-- ---- what is asked of the stores ss that write r over c
pub record Plan (c r : List ℕ) (ss : List Store) : Type 0 where
  pub inside : StoresInside (length r) ss
  pub between : (n : ℕ) → 0 < n → n < length ss → get_or (after_cut c ss n) version_at 0 ≡ 0
  pub ends : after_stores c ss ≡ over r c

-- a record of whole words, the version among them, over a copy that has room for it
module _ (c r : List ℕ) (k : 8 ≤ length r) (w : 4 * (length r / 4) ≡ length r) (f : length r ≤ length c) (bc : Bytes c) (br : Bytes r) where
  abbrev os : List ℕ
  os = differing c r (other_words r)

  -- the record's range in the copy
  abbrev range : List ℕ
  range = take (length r) c

  words : (o : ℕ) → Memᴰ o os → Word r o
  words o m = other_word r o k w (differing_mem c r (other_words r) o m)

  range_length : length range ≡ length r
  range_length = length-take-le (length r) c f

  inside : StoresInside (length r) (writes r os)
  inside = writes_inside c r os k f words

  inside_range : StoresInside (length range) (writes r os)
  inside_range = rw range_length inside

  -- each word comes to be the record's
  word : (o : ℕ) → o % 4 ≡ 0 → o + 4 ≤ length r → le 4 (after_stores range (writes r os)) o ≡ le 4 r o
  word o e h =
      writes_word range r os k (omega (arith, range_length)) words br o e
      (⊎_elim (λ v. inl v) (λ m. inr (other_word r o k w m, ⊎_elim (λ q. inl (same ∙ q)) (λ q. inr q) (differing_or c r (other_words r) o m))) (every_word r o k w e h))
    where
      same : le 4 range o ≡ le 4 c o
      same = le_same 4 range c o o (λ i lt. get_or-take (length r) c (o + i) 0 (omega arith))

  filled : after_stores range (writes r os) ≡ r
  filled =
      let n : length (after_stores range (writes r os)) ≡ length r = stores_length range (writes r os) inside_range ∙ range_length in
      words_same (after_stores range (writes r os)) r (stores_bytes range (writes r os) (take_bytes (length r) c bc)) br n
      (omega arith) (λ o e h. word o (omega arith) (omega arith))

  pub plan_of : Plan c r (writes r os)
  plan_of =
      record {
        inside = inside;
        between = λ n lo hi. writes_between c r os k f words n lo hi;
        ends =
            ap (λ (l : List ℕ). after_stores l (writes r os)) (sym (take-append-drop (length r) c))
            ∙ stores_left range (drop (length r) c) (writes r os) inside_range
            ∙ ap (λ (l : List ℕ). l ++ drop (length r) c) filled;
      }
