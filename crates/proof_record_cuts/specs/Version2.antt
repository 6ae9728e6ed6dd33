-- Record version 2 as a format of crates/proof_format_cuts, and the product's own list of stores as a writer of its
-- copies. c is the bytes of a copy, r those of a record. Assumes nothing.
use Rattle.std.specs.Prelude.{ℕ, cond, List, leb}
use Rattle.record_layout.specs.Layout.{copy_size, header_size, version_at, size}
use Rattle.record_layout.specs.Rules.{sound}
use Rattle.record_stores.specs.Stores.{other_words, differing, writes}
use Rattle.proof_format_cuts.specs.Format.{Format, Writer}

-- how many bytes of a copy are its record: as many as its size says, and the header in any case (record_of of
-- crates/record_layout)
abbrev pub record_length : List ℕ → ℕ
record_length c = cond (leb header_size (size c)) (size c) header_size

unfoldable pub version2 : Format
version2 = record { copy_size = copy_size; version_at = version_at; size_of = record_length; sound = sound }

-- plan of crates/record_stores, with offsets from the copy's start
unfoldable pub planned : Writer
planned c r = writes r (differing c r (other_words r))
