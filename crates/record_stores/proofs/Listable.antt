-- A record of any counts that rules 2 and 3 allow can be listed into a copy, and how many pairs that takes at most.
-- Assumes nothing.
use mathlib.Core.Path.{◌≡◌}
use mathlib.Core.List.{List}
use Prim.Native.Nat.{ℕ, ◌+◌, ◌/◌, ◌≤◌}
use native.Mathlib.Omega.{arith}
use lib.ListN.{length}
use Rattle.record_layout.specs.Layout.{copy_size}
use Rattle.record_layout.specs.Sized.{Sized}
use Rattle.record_layout.proofs.Sizes.{in_words, record_high}
use Rattle.record_stores.specs.Stores.{store_numbers}
use Rattle.record_stores.specs.Added.{Listable, copy_pairs}

pub short : (r : List ℕ) (banks images : ℕ) → Sized r banks images → length r / 4 + 1 ≤ copy_pairs
short r banks images s = omega (arith, record_high r banks images s)

-- behind the list of the other copy, or none, and the first two stores
pub listable : (c r : List ℕ) (banks images base k room : ℕ) → Sized r banks images → length c ≡ copy_size → base ≤ copy_size → k ≤ copy_pairs + 2
    → store_numbers ≤ room → Listable c r base k room
listable c r banks images base k room s lc lb lk lr =
    let n = in_words r banks images s in
    let h = record_high r banks images s in
    record { low = omega arith; high = omega arith; words = omega arith; inside = omega arith; at = lb; fits = omega arith }
