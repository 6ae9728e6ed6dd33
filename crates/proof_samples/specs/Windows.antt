-- The windows of the samples on gathering: B is 0x1000 and N is 256, and the list stands at 0x1000. Assumes nothing.
use Rattle.std.specs.Prelude.{ℕ, List, [], ◌∷◌, ◌++◌, take, replicate}
use Rattle.fields.specs.Number.{bytes}

-- descriptors one behind the other; of each pair Length, then Address
unfoldable pub descriptors : List (ℕ × ℕ) → List ℕ
unfolding bytes
descriptors [] = []
descriptors (pair ∷ pairs) = bytes 8 pair.0 ++ bytes 8 pair.1 ++ descriptors pairs

-- the window of 256 bytes that begins with these descriptors; every other byte is 0, so that an end stands behind them
unfoldable pub window : List (ℕ × ℕ) → List ℕ
unfolding descriptors
window pairs = take 256 (descriptors pairs ++ replicate 256 0)
