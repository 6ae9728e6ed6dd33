-- The rule on the place (G12) without any search: what `place_for` is proved to mean where the total is above 0
-- (proofs/Law.antt). Names as in specs/Place.antt. Assumes nothing.
use Rattle.std.specs.Prelude.{ℕ, ◌+◌, ◌≤◌, ◌<◌, List, length, get_or}
use Rattle.gather_descriptors.specs.Reading.{length_of, address_of}

-- the byte at the address a is one of the n bytes at s
abbrev pub Holds : ℕ → ℕ → ℕ → Type 0
Holds s n a = (s ≤ a) × (a < s + n)

-- no byte is in both ranges
abbrev pub SharesNoByte : ℕ → ℕ → ℕ → ℕ → Type 0
SharesNoByte p t s n = (a : ℕ) → Holds p t a → Holds s n a → ⊥

-- the t bytes at p lie in the window and share no byte with a block or a descriptor read (a descriptor of Length 0 has
-- no block: no byte is in an empty range)
pub record Free (w : List ℕ) (B t : ℕ) (ds : List ℕ) (p : ℕ) : Type 0 where
  pub low : B ≤ p
  pub high : p + t ≤ B + length w
  pub descriptors : (i : ℕ) → i < length ds → SharesNoByte p t (get_or ds i 0) 16
  pub blocks : (i : ℕ) → i < length ds → SharesNoByte p t (address_of w B (get_or ds i 0)) (length_of w B (get_or ds i 0))

-- the lowest such start
pub record LowestFree (w : List ℕ) (B t : ℕ) (ds : List ℕ) (p : ℕ) : Type 0 where
  pub free : Free w B t ds p
  pub none_lower : (q : ℕ) → q < p → Free w B t ds q → ⊥

-- no such start exists (N7)
abbrev pub NoneFree : List ℕ → ℕ → ℕ → List ℕ → Type 0
NoneFree w B t ds = (q : ℕ) → Free w B t ds q → ⊥
