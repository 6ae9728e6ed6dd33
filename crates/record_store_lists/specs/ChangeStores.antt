-- The stores of a change and of a repair (R26 to R28). Which stores are listed, and in what order, was open; this is
-- what is listed. That both copies hold the record after all of them, and that they survive every cut, is said of the
-- entries' own lists in crates/proof_power_cuts/specs. a is the bytes of an area, new those of the record to be
-- written. Assumes nothing.
use Rattle.std.specs.Prelude.{ℕ, cond, List, [], ◌++◌, Option, Some, None}
use Rattle.fields.specs.Guid.{same}
use Rattle.record_layout.specs.Layout.{copy_size, record_of, copy0, copy1}
use Rattle.record_copies.specs.Copies.{source_of, read_from, sound_and_equal}
use Rattle.record_copies.specs.declared.Source.{Source}
use Rattle.record_copies.specs.declared.Source.TheVariants.{Copy0, Copy1}
use Rattle.record_stores.specs.Stores.{Store, plan}

-- into the copy c, which stands at base: none where it holds the new record already
unfoldable pub copy_stores : ℕ → List ℕ → List ℕ → List Store
copy_stores base c new = cond (same (record_of c) new) [] (plan base c new)

-- copy 0 whole before copy 1
unfoldable pub change_stores : (a new : List ℕ) → List Store
change_stores a new = copy_stores 0 (copy0 a) new ++ copy_stores copy_size (copy1 a) new

-- the record of the copy that is read, into the other one
unfoldable pub other_stores : Option Source → List ℕ → List Store
other_stores (Some Copy0) a = plan copy_size (copy1 a) (read_from (Some Copy0) a)
other_stores (Some Copy1) a = plan 0 (copy0 a) (read_from (Some Copy1) a)
other_stores None a = []

-- repair: none if the copies are sound and equal, else the record read into the other copy (R27)
unfoldable pub repair_stores : List ℕ → List Store
repair_stores a = cond (sound_and_equal a) [] (other_stores (source_of a) a)
