-- A type GUID that is shown lies in its directory. Assumes nothing.
use mathlib.Core.Path.{◌≡◌, refl}
use mathlib.Core.Bool.{Bool, true, false, cond}
use mathlib.Core.List.{List}
use Prim.Native.Nat.{ℕ, ◌+◌}
use native.Mathlib.Omega.{arith}
use borrow.Author.Tests.{ltb-true}
use lib.Dec.{ltb}
use Rattle.fields.specs.Part.{range, empty_at_start, Lies}
use Rattle.refusal_order.specs.Decide.{passed, decide}
use Rattle.directory_layout.specs.Layout.{images_in, entry_start}
use Rattle.directory_reader.specs.Reader.{reader_tests}
use Rattle.directory_reader.proofs.Taken.{taken}
use Rattle.directory_values.specs.Values.{guid_range}

pub guid_lies : (d : List ℕ) (k : ℕ) → decide (reader_tests d) ≡ passed → Lies d (guid_range d k)
unfolding guid_range
guid_lies d k e = go (ltb k (images_in d)) refl
  where
    go : (b : Bool) → ltb k (images_in d) ≡ b → Lies d (cond b (range (entry_start k) (entry_start k + 16)) empty_at_start)
    go true h = record { ordered = omega arith; inside = omega (arith, (taken d e).long, ltb-true k (images_in d) h) }
    go false h = record { ordered = omega arith; inside = omega arith }
