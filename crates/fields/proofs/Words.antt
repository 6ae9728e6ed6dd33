-- Laws of 32-bit numbers written one behind another, and read back. Assumes nothing.
use mathlib.Core.Path.{◌≡◌, refl, sym, ap, ◌∙◌}
use mathlib.Core.List.{List, [], ◌∷◌, ◌++◌, append_assoc, append-nil}
use Prim.Native.Nat.{ℕ, suc, ◌+◌, ◌*◌, ◌^◌, ◌≤◌, ◌<◌}
use native.Mathlib.Nat.{add-zero, zero-add, add_assoc}
use native.Mathlib.Numerals.{add-one}
use native.Mathlib.Omega.{arith}
use lib.ListN.{length, take, drop, get_or, length-append, take-append-drop, get_or-append}
use lib.Seq.{take-suc, take_all, length-take-le, get_or-drop, drop-drop, drop_at}
use Rattle.fields.specs.Number.{Bytes, le, bytes, put, words_bytes}
use Rattle.fields.proofs.Number.{le_same, le_of_bytes, length_bytes}
use Rattle.fields.proofs.Bytes.{append_bytes, bytes_small, drop_number}
use Rattle.fields.proofs.Put.{put_more}

-- nothing put
pub put_none : (s : List ℕ) (i : ℕ) → s ≡ put s i []
unfolding put
put_none s i =
    sym
    (ap (λ (n : ℕ). take i s ++ [] ++ drop n s) (add-zero i)
    ∙ ap (λ (x : List ℕ). x ++ drop i s) (append-nil (take i s))
    ∙ take-append-drop i s)

pub length_words : (vs : List ℕ) → length (words_bytes vs) ≡ 4 * length vs
unfolding words_bytes
length_words [] = refl
length_words (v ∷ vs) = omega (arith, length-append (bytes 4 v) (words_bytes vs), length_bytes 4 v, length_words vs)

pub words_bytes_lem : (vs : List ℕ) → Bytes (words_bytes vs)
unfolding words_bytes
words_bytes_lem [] i = omega arith
words_bytes_lem (v ∷ vs) i = append_bytes (bytes 4 v) (words_bytes vs) (bytes_small 4 v) (words_bytes_lem vs) i

pub words_more : (vs : List ℕ) (v : ℕ) → words_bytes (vs ++ (v ∷ [])) ≡ words_bytes vs ++ bytes 4 v
unfolding words_bytes
words_more [] v = append-nil (bytes 4 v)
words_more (x ∷ vs) v = ap (λ (k : List ℕ). bytes 4 x ++ k) (words_more vs v) ∙ sym (append_assoc (bytes 4 x) (words_bytes vs) (bytes 4 v))

-- a run of stores of them, after n and after one more
module _ (s : List ℕ) (i : ℕ) (vs : List ℕ) (fits : i + 4 * length vs ≤ length s) where
  pub words_next : (n : ℕ) {one two : List ℕ} → n < length vs → one ≡ put s i (words_bytes (take n vs))
      → two ≡ put one (i + 4 * n) (bytes 4 (get_or vs n 0)) → two ≡ put s i (words_bytes (take (n + 1) vs))
  words_next n {one} {two} h p q =
      let front = words_bytes (take n vs) in
      let l : length front ≡ 4 * n = omega (arith, length_words (take n vs), length-take-le n vs (omega arith)) in
      let next = bytes 4 (get_or vs n 0) in
      let e : words_bytes (take (n + 1) vs) ≡ front ++ next = rw (add-one, take-suc vs n 0 h) (words_more (take n vs) (get_or vs n 0)) in
      q
      ∙ ap (λ (x : List ℕ). put x (i + 4 * n) next) p
      ∙ ap (λ (k : ℕ). put (put s i front) (i + k) next) (sym l)
      ∙ put_more s i front next (omega (arith, length_bytes 4 (get_or vs n 0)))
      ∙ ap (λ (x : List ℕ). put s i x) (sym e)

  pub words_none : s ≡ put s i (words_bytes (take 0 vs))
  unfolding words_bytes
  words_none = put_none s i

  pub words_whole : (n : ℕ) {one : List ℕ} → length vs ≤ n → one ≡ put s i (words_bytes (take n vs)) → one ≡ put s i (words_bytes vs)
  words_whole n {one} h p = p ∙ ap (λ (x : List ℕ). put s i (words_bytes x)) (take_all n vs h)

-- ---- read back
-- each of a list of numbers fits 32 bits
abbrev pub Fit : List ℕ → Type 0
Fit [] = Unit {0}
Fit (v ∷ vs) = (v < 2 ^ 32) × Fit vs

-- they are what is read of s, the first at b + o, each 4 bytes behind the last. o is a numeral, so that the places are
-- told as a layout tells them
abbrev pub Reads : (s : List ℕ) (b o : ℕ) → List ℕ → Type 0
Reads s b o [] = Unit {0}
Reads s b o (v ∷ vs) = (le 4 s (b + o) ≡ v) × Reads s b (o + 4) vs

-- a number at the place where its bytes stand
pub number_at : (n : ℕ) (s : List ℕ) (o v : ℕ) (rest : List ℕ) → v < 256 ^ n → drop o s ≡ bytes n v ++ rest → le n s o ≡ v
number_at n s o v rest small e =
    le_same n s (bytes n v) o 0 (λ k lt.
    let inside : k < length (bytes n v) = omega (arith, length_bytes n v) in
    sym (get_or-drop o s k 0) ∙ ap (λ (l : List ℕ). get_or l k 0) e ∙ get_or-append (bytes n v) rest 0 k inside ∙ simp zero-add)
    ∙ le_of_bytes n v small

-- what is written is read
pub words_read : (vs s : List ℕ) (b o : ℕ) (rest : List ℕ) → Fit vs → drop (b + o) s ≡ words_bytes vs ++ rest → Reads s b o vs
unfolding words_bytes
words_read [] s b o rest fit e = tt
words_read (v ∷ vs) s b o rest fit e =
    let first : drop (b + o) s ≡ bytes 4 v ++ (words_bytes vs ++ rest) = e ∙ append_assoc (bytes 4 v) (words_bytes vs) rest in
    let more : drop (b + (o + 4)) s ≡ words_bytes vs ++ rest =
    ap (λ (k : ℕ). drop k s) (sym (add_assoc b o 4))
    ∙ sym (drop-drop 4 (b + o) s)
    ∙ ap (λ (l : List ℕ). drop 4 l) first
    ∙ drop_at (bytes 4 v) (words_bytes vs ++ rest) 4 (length_bytes 4 v) in
    (number_at 4 s (b + o) v (words_bytes vs ++ rest) fit.0 first, words_read vs s b (o + 4) rest fit.1 more)

-- and what is read is what is written
pub words_written : (vs s : List ℕ) (b o : ℕ) → Bytes s → b + o + 4 * length vs ≤ length s → Reads s b o vs
    → drop (b + o) s ≡ words_bytes vs ++ drop (b + o + 4 * length vs) s
unfolding words_bytes
words_written [] s b o small h r = ap (λ (k : ℕ). drop k s) (sym (add-zero (b + o)))
words_written (v ∷ vs) s b o small h r =
    let at : b + o + 4 ≡ b + (o + 4) = omega arith in
    let end : b + (o + 4) + 4 * length vs ≡ b + o + 4 * suc (length vs) = omega arith in
    drop_number 4 s (b + o) small (omega arith)
    ∙ rw (r.0, at, words_written vs s b (o + 4) small (omega arith) r.1, end)
    (sym (append_assoc (bytes 4 v) (words_bytes vs) (drop (b + o + 4 * suc (length vs)) s)))
