-- What `read_list` answers and leaves in its scratch array of descriptor addresses, and how the crates above go on from
-- it. The array is `gather`'s own, so what a refusal leaves there is open. The promise of the entry `gather` needs none
-- of this; the laws about it need `lengths`. Assumes nothing.
use Rattle.std.specs.Prelude.{ℕ, ◌+◌, ◌≤◌, ◌<◌, List, [], ◌∷◌, ◌++◌, Result, Ok, Err, ◌≡◌, length, take, get_or}
use Rattle.std.specs.declared.ops.Range.{Range}
use Rattle.refusals.specs.declared.Refusal.{Refusal}
use Rattle.gather_descriptors.specs.Reading.{Reading, refused, whole, length_of, address_of}
use Rattle.gather_descriptors.specs.declared.Listed.{Listed}

-- a reading that began with k addresses kept in old: its answer and, where the list was read whole, the array's front
-- afterwards
unfoldable pub ScratchHolds : Reading → ℕ → List ℕ → List ℕ → Result Listed Refusal → Type 0
ScratchHolds (refused n) k old new r = r ≡ Err n
ScratchHolds (whole total ds) k old new r =
    (r ≡ Ok (record { count = k + length ds; total = total })) × (take (k + length ds) new ≡ take k old ++ ds) × (length new ≡ length old)

-- the descriptor at d and its block, if it has one, lie in the window
pub record Readable (w : List ℕ) (B d : ℕ) : Type 0 where
  pub low : B ≤ d
  pub high : d + 16 ≤ B + length w
  pub block : 0 < length_of w B d → (B ≤ address_of w B d) × (address_of w B d + length_of w B d ≤ B + length w)

-- it has a block, which is the range r of the window, by offsets
pub record BlockIs (w : List ℕ) (B d : ℕ) (r : Range ℕ) : Type 0 where
  pub some : 0 < length_of w B d
  pub starts : B + r.start ≡ address_of w B d
  pub ends : r.end ≡ r.start + length_of w B d

-- each of the descriptors ds and its block, if it has one, lie in the window
abbrev pub AllReadable : List ℕ → ℕ → List ℕ → Type 0
AllReadable w B ds = (i : ℕ) → i < length ds → Readable w B (get_or ds i 0)

-- what the lengths of the descriptors ds add up to
unfoldable pub lengths : List ℕ → ℕ → List ℕ → ℕ
lengths w B [] = 0
lengths w B (d ∷ ds) = length_of w B d + lengths w B ds
