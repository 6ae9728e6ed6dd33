-- What a directory that is taken is known by. Assumes nothing.
use mathlib.Core.Path.{◌≡◌, sym}
use mathlib.Core.Bool.{Bool, true, ◌&&◌}
use mathlib.Core.List.{List}
use Prim.Native.Nat.{ℕ, ◌≤◌}
use native.Mathlib.Omega.{arith}
use borrow.Author.Tests.{leb-true, eqb-true, not-false}
use lib.Dec.{eqb, leb}
use lib.ListN.{length}
use Rattle.fields.proofs.Tests.{both}
use Rattle.refusal_order.specs.Decide.{passed, decide}
use Rattle.refusal_order.proofs.Decide.{no_fault}
use Rattle.record_layout.specs.Layout.{image_limit}
use Rattle.directory_layout.specs.Layout.{directory_header_size, directory_entry_size, directory_size, directory_version, boolean_right}
use Rattle.directory_layout.specs.Layout.{version_in, array_offset_in, images_in, correct_boot_in, entry_size_in, header_reserved_in}
use Rattle.directory_reader.specs.Reader.{header_right, reader_tests}

-- the tests of the header behind its count, and those from its count on
abbrev behind : List ℕ → Bool
behind d = boolean_right (correct_boot_in d) && (eqb (entry_size_in d) directory_entry_size && eqb (header_reserved_in d) 0)

abbrev counted : List ℕ → Bool
counted d = leb 1 (images_in d) && leb (images_in d) image_limit

pub few_told : (d : List ℕ) → header_right d ≡ true → (1 ≤ images_in d) × (images_in d ≤ image_limit)
unfolding header_right
few_told d e =
    let v = (both (eqb (version_in d) directory_version) (eqb (array_offset_in d) directory_header_size && (counted d && behind d)) e).1 in
    let o = (both (eqb (array_offset_in d) directory_header_size) (counted d && behind d) v).1 in
    let q = both (leb 1 (images_in d)) (leb (images_in d) image_limit) (both (counted d) (behind d) o).0 in
    (leb-true 1 (images_in d) q.0, leb-true (images_in d) image_limit q.1)

-- its image count, and its length
pub record Taken (d : List ℕ) : Type 0 where
  pub few : images_in d ≤ image_limit
  pub long : length d ≡ directory_size (images_in d)

pub taken : (d : List ℕ) → decide (reader_tests d) ≡ passed → Taken d
unfolding reader_tests
taken d e =
    let f = no_fault (reader_tests d) (sym e) in
    record {
      few = (few_told d (not-false (header_right d) f.1.0)).1;
      long = eqb-true (length d) (directory_size (images_in d)) (not-false _ f.1.1.0);
    }

-- what ends in its header ends in it
pub header_in : (d : List ℕ) (n : ℕ) → decide (reader_tests d) ≡ passed → n ≤ directory_header_size → n ≤ length d
header_in d n e h = omega (arith, h, (taken d e).long)
