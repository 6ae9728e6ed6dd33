-- A directory that the reader takes: its fields hold right values, which it shows. d is its bytes; n, c and f are its
-- image count, correct_boot and entries. Assumes nothing.
use mathlib.Core.Path.{◌≡◌, refl, sym}
use mathlib.Core.Bool.{true, ◌&&◌}
use mathlib.Core.List.{List}
use Prim.Native.Nat.{ℕ, ◌+◌, ◌-◌, ◌≤◌, ◌<◌}
use native.Mathlib.Omega.{arith}
use borrow.Author.Tests.{eqb-true, leb-true, not-false, eq-eqb, le-leb, le-ltb, lt-ltb}
use lib.Dec.{eqb, leb}
use lib.ListN.{length}
use Rattle.fields.specs.Guid.{guid}
use Rattle.fields.proofs.Tests.{both}
use Rattle.refusal_order.specs.Decide.{decide}
use Rattle.refusal_order.proofs.Decide.{no_fault}
use Rattle.record_layout.specs.Every.{below, distinct}
use Rattle.record_layout.specs.Layout.{image_limit}
use Rattle.record_layout.proofs.Below.{below_each, below_all, distinct_same}
use Rattle.directory_layout.specs.Layout.{DirectoryEntry, directory_header_size, directory_entry_size, directory_size}
use Rattle.directory_layout.specs.Layout.{directory_version, up_to, entry_start, type_guid_in, numbers_in, entry_reserved_in}
use Rattle.directory_layout.specs.Layout.{version_in, array_offset_in, images_in, correct_boot_in, entry_size_in, header_reserved_in}
use Rattle.directory_layout.specs.Layout.{permissions_right, boolean_right}
use Rattle.directory_layout.proofs.Read.{Holds, entry_words_in, entry_held, up_to_same}
use Rattle.directory_reader.specs.Reader.{header_right, entry_right, entries_right, reader_tests, shown_images, shown_correct_boot}
use Rattle.directory_values.specs.Values.{guid_range, numbers_or_zeros, shown_guid, shown_numbers}
use Rattle.proof_directory.specs.RoundTrip.{Taken, shown_entry, shown}

-- what the reader asks of the values
pub record Right (n c : ℕ) (f : ℕ → DirectoryEntry) : Type 0 where
  pub low : 1 ≤ n
  pub high : n ≤ image_limit
  pub correct_boot : c ≤ 1
  pub permissions : (k : ℕ) → k < n → permissions_right (f k).numbers.permissions ≡ true
  pub accepted : (k : ℕ) → k < n → (f k).numbers.accepted ≤ 1
  pub different : distinct n (λ k. (f k).type_guid) ≡ true

entry_of : (d : List ℕ) (k : ℕ) → entry_right d k ≡ true
    → (permissions_right (numbers_in d k).permissions ≡ true) × ((numbers_in d k).accepted ≤ 1) × (entry_reserved_in d k ≡ 0)
unfolding entry_right
entry_of d k e =
    let p = both (permissions_right (numbers_in d k).permissions) _ e in
    let q = both (boolean_right (numbers_in d k).accepted) (eqb (entry_reserved_in d k) 0) p.1 in
    (p.0, leb-true (numbers_in d k).accepted 1 q.0, eqb-true (entry_reserved_in d k) 0 q.1)

-- of a directory that it takes, those that the fields hold
pub taken_holds : (d : List ℕ) → Taken d
    → Holds d (images_in d) (correct_boot_in d) (entry_words_in d) × Right (images_in d) (correct_boot_in d) (entry_words_in d)
unfolding reader_tests header_right entries_right
taken_holds d t =
    let p = no_fault (reader_tests d) (sym t) in
    let n = images_in d in
    let h0 = both (eqb (version_in d) directory_version) _ (not-false (header_right d) p.1.0) in
    let h1 = both (eqb (array_offset_in d) directory_header_size) _ h0.1 in
    let h2 = both (leb 1 n && leb n image_limit) _ h1.1 in
    let count = both (leb 1 n) (leb n image_limit) h2.0 in
    let h3 = both (boolean_right (correct_boot_in d)) _ h2.1 in
    let h4 = both (eqb (entry_size_in d) directory_entry_size) _ h3.1 in
    let version = eqb-true (version_in d) directory_version h0.0 in
    let offset = eqb-true (array_offset_in d) directory_header_size h1.0 in
    let size = eqb-true (entry_size_in d) directory_entry_size h4.0 in
    let right = both (below n (entry_right d)) (distinct n (type_guid_in d)) (not-false (entries_right d) p.1.1.1.0) in
    let each : (k : ℕ) → k < n → entry_right d k ≡ true = λ k lt. below_each (entry_right d) n k right.0 lt in (
      record {
        long = eqb-true (length d) (directory_size n) (not-false (eqb (length d) (directory_size n)) p.1.1.0);
        header = (version, (offset, (refl, (refl, (size, (eqb-true (header_reserved_in d) 0 h4.1, tt))))));
        entries =
            λ k lt. (refl, (refl, (refl, (refl, (refl, (refl, ((entry_of d k (each k lt)).2, tt)))))));
      },
      record {
        low = leb-true 1 n count.0;
        high = leb-true n image_limit count.1;
        correct_boot = leb-true (correct_boot_in d) 1 h3.0;
        permissions = λ k lt. (entry_of d k (each k lt)).0;
        accepted = λ k lt. (entry_of d k (each k lt)).1;
        different = right.1;
      },
    )

module _ (d : List ℕ) (n c : ℕ) (f : ℕ → DirectoryEntry) (h : Holds d n c f) where
  entry_right_lem : (k : ℕ) → k < n → Right n c f → entry_right d k ≡ true
  unfolding entry_right
  entry_right_lem k lt r =
      let q = (h.entries k lt).1 in
      rw (q.0, r.permissions k lt, q.1.1.1.1.0, le-leb (f k).numbers.accepted 1 (r.accepted k lt), q.1.1.1.1.1.0)

  -- and one whose fields hold right values is taken
  pub held_taken : Right n c f → Taken d
  unfolding decide reader_tests header_right entries_right
  held_taken r =
      let q = h.header in
      rw (
        le-ltb (length d) directory_header_size (omega (arith, h.long)),
        q.0,
        q.1.0,
        q.1.1.0,
        q.1.1.1.0,
        q.1.1.1.1.0,
        q.1.1.1.1.1.0,
        le-leb 1 n r.low,
        le-leb n image_limit r.high,
        le-leb c 1 r.correct_boot,
        eq-eqb (length d) (directory_size n) h.long,
        below_all (entry_right d) n (λ k lt. entry_right_lem k lt r),
        distinct_same n (type_guid_in d) (λ k. (f k).type_guid) (λ k lt. (h.entries k lt).0),
        r.different,
      )

  -- ---- what it shows is what its fields hold
  shown_entry_lem : Taken d → (k : ℕ) → k < n → shown_entry d k ≡ f k
  unfolding shown_guid shown_numbers guid_range numbers_or_zeros guid
  shown_entry_lem t k lt =
      let sixteen : entry_start k + 16 - entry_start k ≡ 16 = omega arith in
      let images : images_in d ≡ n = h.header.1.1.0 in
      rw (t, images, lt-ltb k n lt, sixteen) (entry_held d n c f h k lt)

  pub held_shown : Taken d → shown d ≡ record { correct_boot = c; entries = up_to n f }
  unfolding shown_images shown_correct_boot
  held_shown t =
      let images : images_in d ≡ n = h.header.1.1.0 in
      let boot : correct_boot_in d ≡ c = h.header.1.1.1.0 in
      rw (t, images, boot, up_to_same n (shown_entry d) f (shown_entry_lem t))
