-- What the functions that list a change or a repair ask and answer. Nothing here is needed to read an entry's promise.
-- a is the bytes of an area, d the numbers of a store slice before a list, e those after. Assumes nothing.
use Rattle.std.specs.Prelude.{ℕ, ◌≤◌, true, List, ◌≡◌, length}
use Rattle.record_layout.specs.Layout.{area_size}
use Rattle.record_copies.specs.Copies.{sound_and_equal}
use Rattle.record_stores.specs.Stores.{Store, store_numbers, with_list}

-- a list that can be written: sound and equal copies, and a store slice that is long enough
pub record Changeable (a d : List ℕ) : Type 0 where
  pub long : length a ≡ area_size
  pub equal : sound_and_equal a ≡ true
  pub room : store_numbers ≤ length d

-- the list ss stands at the slice's front, n pairs; numbers past it stay
pub record AtFront (n : ℕ) (ss : List Store) (d e : List ℕ) : Type 0 where
  pub count : n ≡ length ss
  pub lists : e ≡ with_list d ss
