-- A directory's bytes put one field behind another: how long they are, and what two stores together put.
-- Assumes nothing.
use mathlib.Core.Path.{◌≡◌, refl, sym, ap, ◌∙◌}
use mathlib.Core.List.{List, [], ◌∷◌, ◌++◌, append_assoc, append-nil}
use Prim.Native.Nat.{ℕ, zero, suc, ◌+◌, ◌*◌, ◌≤◌, ◌<◌}
use native.Mathlib.Numerals.{add-one}
use native.Mathlib.Omega.{arith}
use lib.ListN.{length, length-append}
use Rattle.fields.specs.Number.{put, words_bytes}
use Rattle.fields.proofs.Put.{put_length, put_more}
use Rattle.fields.proofs.Words.{length_words, put_none}
use Rattle.fields.specs.Joined.{joined}
use Rattle.fields.proofs.Joined.{joined_length}
use Rattle.directory_layout.specs.Layout.{DirectoryEntry, Directory, five, entry_start}
use Rattle.directory_layout.specs.Layout.{header_bytes, entry_bytes, entries_bytes, directory_bytes, up_to}

pub header_length_lem : (images boot : ℕ) → length (header_bytes images boot) ≡ 24
unfolding header_bytes
header_length_lem images boot = length_words (2 ∷ 24 ∷ images ∷ boot ∷ 40 ∷ 0 ∷ [])

module _ (e : DirectoryEntry) (long : length e.type_guid ≡ 16) where
  pub entry_length : length (entry_bytes e) ≡ 40
  unfolding entry_bytes
  entry_length =
      let six = five e.numbers ++ (0 ∷ []) in
      omega (arith, length-append e.type_guid (words_bytes six), length_words six)

  -- a type GUID, and the numbers behind it
  pub entry_put : (s : List ℕ) (o : ℕ) {one two : List ℕ} → o + 40 ≤ length s → one ≡ put s o e.type_guid
      → two ≡ put one (o + 16) (words_bytes (five e.numbers ++ (0 ∷ []))) → two ≡ put s o (entry_bytes e)
  unfolding entry_bytes
  entry_put s o {one} {two} h p q =
      let six = five e.numbers ++ (0 ∷ []) in
      q
      ∙ ap (λ (x : List ℕ). put x (o + 16) (words_bytes six)) p
      ∙ ap (λ (n : ℕ). put (put s o e.type_guid) (o + n) (words_bytes six)) (sym long)
      ∙ put_more s o e.type_guid (words_bytes six) (omega (arith, length_words six))

pub entries_more : (es : List DirectoryEntry) (e : DirectoryEntry) → entries_bytes (es ++ (e ∷ [])) ≡ entries_bytes es ++ entry_bytes e
unfolding entries_bytes
entries_more [] e = append-nil (entry_bytes e)
entries_more (x ∷ es) e =
    ap (λ (k : List ℕ). entry_bytes x ++ k) (entries_more es e) ∙ sym (append_assoc (entry_bytes x) (entries_bytes es) (entry_bytes e))

pub up_to_more : (f : ℕ → DirectoryEntry) (n : ℕ) → entries_bytes (up_to (suc n) f) ≡ entries_bytes (up_to n f) ++ entry_bytes (f n)
unfolding up_to
up_to_more f n = entries_more (up_to n f) (f n)

pub up_to_length : {A : Type 0} (n : ℕ) (f : ℕ → A) → length (up_to n f) ≡ n
unfolding up_to
up_to_length zero f = refl
up_to_length (suc n) f = length-append (up_to n f) (f n ∷ []) ∙ omega (arith, up_to_length n f)

module _ (f : ℕ → DirectoryEntry) where
  pub entries_joined : (n : ℕ) → entries_bytes (up_to n f) ≡ joined n (λ k. entry_bytes (f k))
  unfolding up_to entries_bytes joined
  entries_joined zero = refl
  entries_joined (suc n) = up_to_more f n ∙ ap (λ (l : List ℕ). l ++ entry_bytes (f n)) (entries_joined n)

  pub entries_length : (n : ℕ) → ((k : ℕ) → k < n → length (f k).type_guid ≡ 16) → length (entries_bytes (up_to n f)) ≡ n * 40
  entries_length n g =
      ap length (entries_joined n) ∙ joined_length 40 n (λ k. entry_bytes (f k)) (λ k h. entry_length (f k) (g k h))

  pub entries_kept : (s : List ℕ) (n : ℕ) → ((k : ℕ) → k < n → length (f k).type_guid ≡ 16) → entry_start n ≤ length s
      → length (put s 24 (entries_bytes (up_to n f))) ≡ length s
  entries_kept s n g h = put_length s 24 (entries_bytes (up_to n f)) (omega (arith, entries_length n g))

  -- entries one behind another: none, and one more
  pub entries_none : (s : List ℕ) → s ≡ put s 24 (entries_bytes (up_to 0 f))
  unfolding up_to entries_bytes
  entries_none s = put_none s 24

  pub entries_next : (s : List ℕ) (n : ℕ) {one two : List ℕ} → ((k : ℕ) → k < n + 1 → length (f k).type_guid ≡ 16)
      → entry_start (n + 1) ≤ length s → one ≡ put s 24 (entries_bytes (up_to n f)) → two ≡ put one (entry_start n) (entry_bytes (f n))
      → two ≡ put s 24 (entries_bytes (up_to (n + 1) f))
  entries_next s n {one} {two} g h p q =
      let front = entries_bytes (up_to n f) in
      let l : length front ≡ n * 40 = entries_length n (λ k lt. g k (omega arith)) in
      q
      ∙ ap (λ (x : List ℕ). put x (24 + n * 40) (entry_bytes (f n))) p
      ∙ ap (λ (k : ℕ). put (put s 24 front) (24 + k) (entry_bytes (f n))) (sym l)
      ∙ put_more s 24 front (entry_bytes (f n)) (omega (arith, entry_length (f n) (g n (omega arith))))
      ∙ ap (λ (x : List ℕ). put s 24 x) (sym (rw add-one (up_to_more f n)))

-- the whole: the header, and the entries behind it
module _ (boot n : ℕ) (f : ℕ → DirectoryEntry) (long : (k : ℕ) → k < n → length (f k).type_guid ≡ 16) where
  abbrev whole : Directory
  whole = record { correct_boot = boot; entries = up_to n f }

  pub directory_length : length (directory_bytes whole) ≡ entry_start n
  unfolding directory_bytes
  directory_length =
      length-append (header_bytes (length (up_to n f)) boot) (entries_bytes (up_to n f))
      ∙ omega (arith, header_length_lem (length (up_to n f)) boot, entries_length f n long)

  pub directory_put : (s : List ℕ) {one two : List ℕ} → entry_start n ≤ length s → one ≡ put s 0 (header_bytes n boot)
      → two ≡ put one 24 (entries_bytes (up_to n f)) → two ≡ put s 0 (directory_bytes whole)
  unfolding directory_bytes
  directory_put s {one} {two} h p q =
      let front = header_bytes n boot in
      let l : length front ≡ 24 = header_length_lem n boot in
      q
      ∙ ap (λ (x : List ℕ). put x 24 (entries_bytes (up_to n f))) p
      ∙ ap (λ (k : ℕ). put (put s 0 front) k (entries_bytes (up_to n f))) (omega (arith, l))
      ∙ put_more s 0 front (entries_bytes (up_to n f)) (omega (arith, entries_length f n long))
      ∙ ap (λ (k : ℕ). put s 0 (header_bytes k boot ++ entries_bytes (up_to n f))) (sym (up_to_length n f))
