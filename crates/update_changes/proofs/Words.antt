-- Stores of bytes that do not meet, and of what is there already. Assumes nothing.
use mathlib.Core.Path.{◌≡◌, refl, sym, ap, subst, ◌∙◌}
use mathlib.Core.Logic.{◌⊎◌, inl, inr}
use mathlib.Core.List.{List, [], ◌∷◌}
use Prim.Native.Nat.{ℕ, zero, suc, ◌+◌, ◌-◌, ◌≤◌, ◌<◌}
use native.Mathlib.Nat.{add-zero}
use native.Mathlib.Omega.{arith}
use native.Mathlib.Decide.{dec_lt, dec_le}
use lib.ListN.{length, get_or}
use lib.Seq.{ext_get_or}
use Rattle.fields.specs.Number.{Bytes, le, bytes, put}
use Rattle.fields.proofs.Number.{length_bytes}
use Rattle.fields.proofs.Put.{put_length, put_outside, put_inside}
use Rattle.record_alterations.proofs.Stays.{word_back}

-- `put` is known by its bytes
pub put_is : (s : List ℕ) (i : ℕ) (xs l : List ℕ) → i + length xs ≤ length s → length l ≡ length s
    → ((k : ℕ) → (k < i) ⊎ (i + length xs ≤ k) → get_or l k 0 ≡ get_or s k 0) → ((k : ℕ) → k < length xs → get_or l (i + k) 0 ≡ get_or xs k 0)
    → put s i xs ≡ l
put_is s i xs l fits long outside inside =
    ext_get_or 0 (put s i xs) l (put_length s i xs fits ∙ sym long) (λ k lt. go k (dec_lt k i) (dec_le (i + length xs) k))
  where
    go : (k : ℕ) → Dec (k < i) → Dec (i + length xs ≤ k) → get_or (put s i xs) k 0 ≡ get_or l k 0
    go k (yes p) q = put_outside s i xs fits k (inl p) ∙ sym (outside k (inl p))
    go k (no p) (yes q) = put_outside s i xs fits k (inr q) ∙ sym (outside k (inr q))
    go k (no p) (no q) =
        let z : i + (k - i) ≡ k = omega arith in
        let m : k - i < length xs = omega arith in
        subst (λ (j : ℕ). get_or (put s i xs) j 0 ≡ get_or l j 0) z (put_inside s i xs fits (k - i) m ∙ sym (inside (k - i) m))

-- two stores that do not meet, in either order
pub put_swap : (s : List ℕ) (i j : ℕ) (xs ys : List ℕ) → i + length xs ≤ j → j + length ys ≤ length s
    → put (put s j ys) i xs ≡ put (put s i xs) j ys
put_swap s i j xs ys apart fits =
    put_is (put s j ys) i xs (put (put s i xs) j ys) (rw (put_length s j ys fits) fi)
    (put_length (put s i xs) j ys fj ∙ put_length s i xs fi ∙ sym (put_length s j ys fits))
    (λ k h. out k h (dec_lt k j) (dec_le (j + length ys) k))
    (λ k lt. put_outside (put s i xs) j ys fj (i + k) (inl (omega arith)) ∙ put_inside s i xs fi k lt)
  where
    fi : i + length xs ≤ length s
    fi = omega arith

    fj : j + length ys ≤ length (put s i xs)
    fj = rw (put_length s i xs fi) fits

    out : (k : ℕ) → (k < i) ⊎ (i + length xs ≤ k) → Dec (k < j) → Dec (j + length ys ≤ k) → get_or (put (put s i xs) j ys) k 0 ≡ get_or (put s j ys) k 0
    out k h (yes p) q = put_outside (put s i xs) j ys fj k (inl p) ∙ put_outside s i xs fi k h ∙ sym (put_outside s j ys fits k (inl p))
    out k h (no p) (yes q) = put_outside (put s i xs) j ys fj k (inr q) ∙ put_outside s i xs fi k h ∙ sym (put_outside s j ys fits k (inr q))
    out k h (no p) (no q) =
        let z : j + (k - j) ≡ k = omega arith in
        let m : k - j < length ys = omega arith in
        subst (λ (n : ℕ). get_or (put (put s i xs) j ys) n 0 ≡ get_or (put s j ys) n 0) z
        (put_inside (put s i xs) j ys fj (k - j) m ∙ sym (put_inside s j ys fits (k - j) m))

-- a byte put back leaves the record as it was
pub put_byte_back : (r : List ℕ) (o v : ℕ) → o < length r → get_or r o 0 ≡ v → put r o (v ∷ []) ≡ r
put_byte_back r o v fits e = put_is r o (v ∷ []) r (omega arith) refl (λ k h. refl) go
  where
    go : (k : ℕ) → k < 1 → get_or r (o + k) 0 ≡ get_or (v ∷ []) k 0
    go zero lt = simp add-zero e
    go (suc k) lt = absurd (omega arith)

-- the word of l at o put there, where l is as r was elsewhere
pub put_word : (r l : List ℕ) (o : ℕ) → Bytes l → length l ≡ length r → o + 4 ≤ length r
    → ((k : ℕ) → (k < o) ⊎ (o + 4 ≤ k) → get_or l k 0 ≡ get_or r k 0) → put r o (bytes 4 (le 4 l o)) ≡ l
put_word r l o b long fits outside =
    let W = bytes 4 (le 4 l o) in
    let e = length_bytes 4 (le 4 l o) in
    put_is r o W l (rw e fits) long (λ k h. outside k (rw e at h)) (λ k lt.
    ap (λ (x : List ℕ). get_or x (o + k) 0) (sym (word_back l o b (omega arith))) ∙ put_inside l o W (omega arith) k lt)
