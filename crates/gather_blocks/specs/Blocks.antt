-- The blocks of a scattered list (G13). w is the window's bytes, B the address of the first, d the address of a
-- descriptor, ds the addresses of the descriptors read. Assumes nothing.
use Rattle.std.specs.Prelude.{ℕ, ◌-◌, List, [], ◌∷◌, ◌++◌, take, drop}
use Rattle.gather_descriptors.specs.Reading.{length_of, address_of}

-- the bytes of the block of the descriptor at d; none where its Length is 0
unfoldable pub block : List ℕ → ℕ → ℕ → List ℕ
block w B d = take (length_of w B d) (drop (address_of w B d - B) w)

-- all blocks, in list order
unfoldable pub blocks : List ℕ → ℕ → List ℕ → List ℕ
blocks w B [] = []
blocks w B (d ∷ ds) = block w B d ++ blocks w B ds
