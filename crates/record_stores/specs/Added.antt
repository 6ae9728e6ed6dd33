-- What the functions that list stores ask and answer, one step at a time. Nothing here is needed to read an entry's
-- promise. Assumes nothing.
use Rattle.std.specs.Prelude.{ℕ, ◌+◌, ◌*◌, ◌/◌, ◌≤◌, cond, List, [], ◌∷◌, ◌++◌, map, ◌≡◌, eqb, length}
use Rattle.record_layout.specs.Layout.{copy_size, record_limit}
use Rattle.record_stores.specs.Stores.{Store, store, shift, differing, with_list}

-- the slice held k stores at its front and holds n now: the same, and then ts
pub record Added (k n : ℕ) (ts : List Store) (out new : List ℕ) : Type 0 where
  pub count : n ≡ k + length ts
  pub kept : length new ≡ length out
  pub adds : (d : List ℕ) (ss : List Store) → length ss ≡ k → length d ≡ length out → out ≡ with_list d ss → new ≡ with_list d (ss ++ ts)

-- the store of the word w at o, where another than that stood
unfoldable pub word_store : (base o old w : ℕ) → List Store
word_store base o old w = cond (eqb old w) [] ((base + o, w) ∷ [])

-- the stores at those of the offsets at which the copy differs
abbrev pub stored : ℕ → List ℕ → List ℕ → List ℕ → List Store
stored base c r os = map (shift base) (map (store r) (differing c r os))

-- how many pairs the list into one copy has at most: a store for each word of the longest record, and one more
abbrev pub copy_pairs : ℕ
copy_pairs = record_limit / 4 + 1

-- a record that can be listed: whole words, the version among them, in the copy; and room for every word and one store
-- more
pub record Listable (c r : List ℕ) (base k room : ℕ) : Type 0 where
  pub low : 8 ≤ length r
  pub high : length r ≤ copy_size
  pub words : 4 * (length r / 4) ≡ length r
  pub inside : length r ≤ length c
  pub at : base ≤ copy_size
  pub fits : 2 * (k + length r / 4 + 1) ≤ room
