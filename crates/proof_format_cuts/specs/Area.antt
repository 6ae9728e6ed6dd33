-- An area under stores and cuts (R22, P2). a is the bytes of an area, or of a copy in it. Assumes nothing.
use Rattle.std.specs.Prelude.{ℕ, List, [], ◌∷◌, take}
use Rattle.fields.specs.Number.{bytes, put}
use Rattle.record_stores.specs.Stores.{Store}

-- a store done: its word in the four bytes at its offset, every other byte as it was (R22)
unfoldable pub after_store : List ℕ → Store → List ℕ
after_store a s = put a s.0 (bytes 4 s.1)

-- stores done in list order
unfoldable pub after_stores : List ℕ → List Store → List ℕ
after_stores a [] = a
after_stores a (s ∷ ss) = after_stores (after_store a s) ss

-- a cut after n of the stores (P2). An n past the list's end is all of them
unfoldable pub after_cut : List ℕ → List Store → ℕ → List ℕ
after_cut a ss n = after_stores a (take n ss)

-- each store of a list
abbrev pub Each : (Store → Type 0) → List Store → Type 0
Each P [] = Unit {0}
Each P (s ∷ ss) = P s × Each P ss
