-- Lists of one length, one behind another: what stands at a place. Lists of any length: the whole by what stands at
-- each place. Then entries, each a GUID and 32-bit numbers, behind a header. Assumes nothing.
use mathlib.Core.Path.{◌≡◌, refl, sym, ap, ◌∙◌}
use mathlib.Core.List.{List, ◌++◌, append_assoc, append-nil}
use mathlib.Core.Logic.{⊎_elim}
use Prim.Native.Nat.{ℕ, zero, suc, ◌+◌, ◌*◌, ◌≤◌, ◌<◌}
use native.Mathlib.Nat.{add-zero, suc-mul, zero-mul, one-mul, add-mul, mul-le-mul_right}
use native.Mathlib.Numerals.{add-one}
use native.Mathlib.Omega.{arith}
use lib.ListN.{length, take, drop, length-append, take-append-drop, drop_of_length-le}
use lib.Seq.{drop-append-le, drop_at, take_at, drop-drop}
use Rattle.fields.specs.Number.{Bytes, words_bytes}
use Rattle.fields.specs.Guid.{guid}
use Rattle.fields.specs.Joined.{joined}
use Rattle.fields.proofs.Tests.{le_or_lt}
use Rattle.fields.proofs.Bytes.{append_bytes}
use Rattle.fields.proofs.Words.{length_words, Fit, Reads, words_read, words_written}

pub joined_length : (w n : ℕ) (g : ℕ → List ℕ) → ((k : ℕ) → k < n → length (g k) ≡ w) → length (joined n g) ≡ n * w
unfolding joined
joined_length w zero g h = sym (zero-mul w)
joined_length w (suc n) g h =
    omega (arith, joined_length w n g (λ k lt. h k (omega arith)), h n (omega arith), length-append (joined n g) (g n), suc-mul n w)

pub joined_bytes : (n : ℕ) (g : ℕ → List ℕ) → ((k : ℕ) → k < n → Bytes (g k)) → Bytes (joined n g)
unfolding joined
joined_bytes zero g h i = omega arith
joined_bytes (suc n) g h i =
    append_bytes (joined n g) (g n) (joined_bytes n g (λ k lt. h k (omega arith))) (h n (omega arith)) i

-- the k-th of them, at its place
pub joined_at : (w n k : ℕ) (g : ℕ → List ℕ) → ((i : ℕ) → i < n → length (g i) ≡ w) → k < n
    → drop (k * w) (joined n g) ≡ g k ++ drop (k * w + w) (joined n g)
unfolding joined
joined_at w zero k g h lt = absurd (omega arith)
joined_at w (suc n) k g h lt =
    let front = joined n g in
    let before : (i : ℕ) → i < n → length (g i) ≡ w = λ i l. h i (omega arith) in
    let long = joined_length w n g before in
    ⊎_elim
    (λ le.
    let z : k ≡ n = omega arith in
    let end : length (front ++ g n) ≤ n * w + w = omega (arith, length-append front (g n), h n (omega arith)) in
    rw (z, drop_of_length-le (front ++ g n) end, append-nil (g n)) (drop_at front (g n) (n * w) long))
    (λ less.
    let fits : k * w + w ≤ length front = omega (arith, mul-le-mul_right {m = suc k} {n = n} w less, suc-mul k w) in
    drop-append-le (k * w) front (g n) (omega arith)
    ∙ rw (joined_at w n k g before less, drop-append-le (k * w + w) front (g n) fits)
    (append_assoc (g k) (drop (k * w + w) front) (g n)))
    (le_or_lt n k)

-- ---- lists of any length
-- of the same lists, the same whole
pub joined_same : (n : ℕ) (f g : ℕ → List ℕ) → ((k : ℕ) → k < n → f k ≡ g k) → joined n f ≡ joined n g
unfolding joined
joined_same zero f g h = refl
joined_same (suc n) f g h = rw (joined_same n f g (λ k lt. h k (omega arith)), h n (omega arith))

-- how far they reach, where `place k` is where the k-th begins
pub joined_end : (n : ℕ) (place : ℕ → ℕ) (g : ℕ → List ℕ) → ((k : ℕ) → k < n → place k + length (g k) ≡ place (k + 1))
    → place 0 + length (joined n g) ≡ place n
unfolding joined
joined_end zero place g h = add-zero (place 0)
joined_end (suc n) place g h =
    let last : place n + length (g n) ≡ place (suc n) = rw add-one at (h n (omega arith)) in
    omega (arith, joined_end n place g (λ k lt. h k (omega arith)), length-append (joined n g) (g n))

-- a list that has each of them at its place
pub rejoined : (n : ℕ) (place : ℕ → ℕ) (s : List ℕ) (g : ℕ → List ℕ)
    → ((k : ℕ) → k < n → drop (place k) s ≡ g k ++ drop (place (k + 1)) s)
    → drop (place 0) s ≡ joined n g ++ drop (place n) s
unfolding joined
rejoined zero place s g h = refl
rejoined (suc n) place s g h =
    rejoined n place s g (λ k lt. h k (omega arith))
    ∙ ap (λ (l : List ℕ). joined n g ++ l) (rw add-one at (h n (omega arith)))
    ∙ sym (append_assoc (joined n g) (g n) (drop (place (suc n)) s))

-- ---- entries: a GUID, and numbers behind it
abbrev pub guid_words : (guids words : ℕ → List ℕ) → ℕ → List ℕ
guid_words guids words k = guids k ++ words_bytes (words k)

-- they are what is read of s at b
abbrev pub EntryReads : (s : List ℕ) (b : ℕ) (id vs : List ℕ) → Type 0
EntryReads s b id vs = (guid s b ≡ id) × Reads s b 16 vs

-- n of them, each w bytes long, behind a header of o bytes
module _ (o w n : ℕ) (guids words : ℕ → List ℕ) (wide : (k : ℕ) → 16 + 4 * length (words k) ≡ w) where
  module _ (whole : (k : ℕ) → k < n → length (guids k) ≡ 16) where
    entry_long : (k : ℕ) → k < n → length (guid_words guids words k) ≡ w
    entry_long k h = omega (arith, length-append (guids k) (words_bytes (words k)), length_words (words k), whole k h, wide k)

    pub entries_long : length (joined n (guid_words guids words)) ≡ n * w
    entries_long = joined_length w n (guid_words guids words) entry_long

    -- what is written is read
    pub entries_read : (head s : List ℕ) → length head ≡ o → s ≡ head ++ joined n (guid_words guids words)
        → (k : ℕ) → k < n → Fit (words k) → EntryReads s (o + k * w) (guids k) (words k)
    unfolding guid
    entries_read head s long is k h fit =
        let b = o + k * w in
        let id = guids k in
        let own = words_bytes (words k) in
        let all = joined n (guid_words guids words) in
        let rest = drop (k * w + w) all in
        let here : drop b s ≡ id ++ (own ++ rest) =
        ap (λ (l : List ℕ). drop b l) is
        ∙ sym (drop-drop (k * w) o (head ++ all))
        ∙ rw (drop_at head all o long)
        (joined_at w n k (guid_words guids words) entry_long h ∙ append_assoc id own rest) in (
          ap (λ (l : List ℕ). take 16 l) here ∙ take_at id (own ++ rest) 16 (whole k h),
          words_read (words k) s b 16 rest fit
              (sym (drop-drop 16 b s) ∙ ap (λ (l : List ℕ). drop 16 l) here ∙ drop_at id (own ++ rest) 16 (whole k h)),
        )

  -- and what is read is what is written
  pub entries_back : (s : List ℕ) → Bytes s → length s ≡ o + n * w
      → ((k : ℕ) → k < n → EntryReads s (o + k * w) (guids k) (words k)) → drop o s ≡ joined n (guid_words guids words)
  unfolding guid
  entries_back s small long each =
      let past : length s ≤ o + n * w = omega arith in
      let none : o ≡ o + 0 * w = omega (arith, zero-mul w) in
      ap (λ (k : ℕ). drop k s) none
      ∙ rejoined n (λ k. o + k * w) s (guid_words guids words) (λ k h.
      let b = o + k * w in
      let own = words_bytes (words k) in
      let in_list : b + w ≤ length s = omega (arith, mul-le-mul_right {m = suc k} {n = n} w h, suc-mul k w) in
      let end : b + 16 + 4 * length (words k) ≡ o + (k + 1) * w = omega (arith, wide k, add-mul k 1 w, one-mul w) in
      let behind = words_written (words k) s b 16 small (omega arith) (each k h).1 in
      sym (take-append-drop 16 (drop b s))
      ∙ rw ((each k h).0, drop-drop 16 b s, behind, end) (sym (append_assoc (guids k) own (drop (o + (k + 1) * w) s))))
      ∙ rw (drop_of_length-le s past) (append-nil (joined n (guid_words guids words)))
