-- What the functions below `gather` ask of each other. Nothing here is needed to read the entry's promise. Assumes
-- nothing.
use Rattle.std.specs.Prelude.{ℕ, ◌+◌, ◌≤◌, List, length}
use Rattle.gather_descriptors.specs.Reading.{length_of}
use Rattle.gather_descriptors.specs.Scratch.{Readable}

-- the block of the descriptor at d can be copied to the offset q: it fits there
pub record Ready (w : List ℕ) (B d q : ℕ) : Type 0 where
  pub readable : Readable w B d
  pub room : q + length_of w B d ≤ length w
