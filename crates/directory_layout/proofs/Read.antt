-- What is read of a directory's bytes, and the bytes of what is read. d is the bytes of a directory; n, c and f are its
-- image count, correct_boot and entries. Assumes nothing.
use mathlib.Core.Path.{◌≡◌, refl, sym, ap, ◌∙◌}
use mathlib.Core.List.{List, [], ◌∷◌, ◌++◌}
use mathlib.Core.Logic.{⊎_elim}
use Prim.Native.Nat.{ℕ, zero, suc, ◌^◌, ◌<◌}
use native.Mathlib.Omega.{arith}
use lib.ListN.{length, get_or, length-append, get_or-append}
use lib.Seq.{get_or_at}
use Rattle.fields.specs.Number.{Bytes}
use Rattle.fields.proofs.Tests.{le_or_lt}
use Rattle.fields.proofs.Words.{Fit, Reads, words_read, words_written}
use Rattle.fields.specs.Joined.{joined}
use Rattle.fields.proofs.Joined.{EntryReads, entries_read, entries_back}
use Rattle.directory_layout.specs.Layout.{five, DirectoryEntry, Directory, directory_header_size, directory_entry_size, directory_size}
use Rattle.directory_layout.specs.Layout.{directory_version, up_to, header_bytes, entry_bytes, entries_bytes, directory_bytes, entry_start}
use Rattle.directory_layout.specs.Layout.{type_guid_in, numbers_in}
use Rattle.directory_layout.proofs.Written.{header_length_lem, up_to_length, entries_joined, entries_length}

-- ---- lists of what a function gives below a number
pub up_to_same : {A : Type 0} (n : ℕ) (f g : ℕ → A) → ((k : ℕ) → k < n → f k ≡ g k) → up_to n f ≡ up_to n g
unfolding up_to
up_to_same zero f g h = refl
up_to_same (suc n) f g h = rw (up_to_same n f g (λ k lt. h k (omega arith)), h n (omega arith))

pub up_to_at : {A : Type 0} (n k : ℕ) (f : ℕ → A) (z : A) → k < n → get_or (up_to n f) k z ≡ f k
unfolding up_to
up_to_at zero k f z lt = absurd (omega arith)
up_to_at (suc n) k f z lt =
    ⊎_elim
    (λ le. let e : k ≡ n = omega arith in rw e (get_or_at (up_to n f) (f n) [] z n (up_to_length n f)))
    (λ less. get_or-append (up_to n f) (f n ∷ []) z k (omega (arith, up_to_length n f)) ∙ up_to_at n k f z less)
    (le_or_lt n k)

-- ---- the numbers of a header, and those of an entry behind its type GUID
abbrev pub header_words : (n c : ℕ) → List ℕ
header_words n c = directory_version ∷ directory_header_size ∷ n ∷ c ∷ directory_entry_size ∷ 0 ∷ []

abbrev pub entry_words : DirectoryEntry → List ℕ
entry_words e = five e.numbers ++ (0 ∷ [])

-- d is as long as n entries ask, and its fields hold that
pub record Holds (d : List ℕ) (n c : ℕ) (f : ℕ → DirectoryEntry) : Type 0 where
  pub long : length d ≡ directory_size n
  pub header : Reads d 0 0 (header_words n c)
  pub entries : (k : ℕ) → k < n → EntryReads d (entry_start k) (f k).type_guid (entry_words (f k))

abbrev pub entry_words_in : List ℕ → ℕ → DirectoryEntry
entry_words_in d k = record { type_guid = type_guid_in d k; numbers = numbers_in d k }

pub entry_held : (d : List ℕ) (n c : ℕ) (f : ℕ → DirectoryEntry) → Holds d n c f → (k : ℕ) → k < n → entry_words_in d k ≡ f k
entry_held d n c f h k lt =
    let p = (h.entries k lt).0 in
    let q = (h.entries k lt).1 in
    λ i.
    record {
      type_guid = p i;
      numbers =
          record {
            permissions = q.0 i;
            maximum_size = q.1.0 i;
            lowest_accepted_version = q.1.1.0 i;
            version = q.1.1.1.0 i;
            accepted = q.1.1.1.1.0 i;
          };
    }

-- ---- the bytes
module _ (n c : ℕ) (f : ℕ → DirectoryEntry) where
  abbrev x : Directory
  x = record { correct_boot = c; entries = up_to n f }

  whole : directory_bytes x ≡ header_bytes n c ++ joined n (λ k. entry_bytes (f k))
  unfolding directory_bytes
  whole = rw (up_to_length n f, entries_joined f n)

  whole_long : ((k : ℕ) → k < n → length (f k).type_guid ≡ 16) → length (directory_bytes x) ≡ directory_size n
  unfolding directory_bytes
  whole_long guids =
      let images = length (up_to n f) in
      length-append (header_bytes images c) (entries_bytes (up_to n f)) ∙ omega (arith, header_length_lem images c, entries_length f n guids)

  -- what is written is read, where its numbers fit
  pub bytes_hold : n < 2 ^ 32 → c < 2 ^ 32 → ((k : ℕ) → k < n → length (f k).type_guid ≡ 16)
      → ((k : ℕ) → k < n → Fit (entry_words (f k))) → Holds (directory_bytes x) n c f
  unfolding header_bytes entry_bytes
  bytes_hold hn hc guids fit =
      let numbers : ℕ → List ℕ = λ k. entry_words (f k) in
      let ids : ℕ → List ℕ = λ k. (f k).type_guid in
      let all = joined n (λ k. entry_bytes (f k)) in
      record {
        long = whole_long guids;
        header = words_read (header_words n c) (directory_bytes x) 0 0 all (omega arith) whole;
        entries =
            λ k lt.
            entries_read directory_header_size directory_entry_size n ids numbers (λ j. refl) guids (header_bytes n c) (directory_bytes x)
            (header_length_lem n c) whole k lt (fit k lt);
      }

  -- and what is read is what is written
  pub held_bytes : (d : List ℕ) → Bytes d → Holds d n c f → directory_bytes x ≡ d
  unfolding header_bytes entry_bytes
  held_bytes d small h =
      let numbers : ℕ → List ℕ = λ k. entry_words (f k) in
      let ids : ℕ → List ℕ = λ k. (f k).type_guid in
      whole
      ∙ sym
      (words_written (header_words n c) d 0 0 small (omega (arith, h.long)) h.header
      ∙ ap (λ (l : List ℕ). header_bytes n c ++ l)
      (entries_back directory_header_size directory_entry_size n ids numbers (λ j. refl) d small h.long h.entries))
