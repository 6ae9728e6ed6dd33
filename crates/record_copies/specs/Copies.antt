-- Which copy is read, and when the copies are equal (R20, R21). a is the bytes of an area. Assumes nothing.
use Rattle.std.specs.Prelude.{ℕ, Bool, cond, ◌&&◌, List, [], Option, Some, None}
use Rattle.fields.specs.Guid.{same}
use Rattle.record_layout.specs.Layout.{record_of, copy0, copy1}
use Rattle.record_layout.specs.Rules.{sound_copy}
use Rattle.record_copies.specs.declared.Source.{Source}
use Rattle.record_copies.specs.declared.Source.TheVariants.{Copy0, Copy1}

-- the copy of which the record is read: copy 0 if sound, else copy 1 if sound (R20)
unfoldable pub source_of : List ℕ → Option Source
source_of a = cond (sound_copy (copy0 a)) (Some Copy0) (cond (sound_copy (copy1 a)) (Some Copy1) None)

-- the record in that copy
unfoldable pub read_from : Option Source → List ℕ → List ℕ
read_from (Some Copy0) a = record_of (copy0 a)
read_from (Some Copy1) a = record_of (copy1 a)
read_from None a = []

-- the record read (R20)
abbrev pub record_read : List ℕ → List ℕ
record_read a = read_from (source_of a) a

-- the records are the same, byte for byte (R21)
unfoldable pub records_equal : List ℕ → Bool
records_equal a = same (record_of (copy0 a)) (record_of (copy1 a))

-- the copies are sound and equal (N22)
unfoldable pub sound_and_equal : List ℕ → Bool
sound_and_equal a = (sound_copy (copy0 a) && sound_copy (copy1 a)) && records_equal a
