-- The place chosen for the gathered blocks (G12). w is the window's bytes, B the address of the first, t the total,
-- which is above 0 (6 comes first), ds the addresses of the descriptors read, and p a start: an address, in whole
-- numbers that never wrap. Assumes nothing.
use Rattle.std.specs.Prelude.{ℕ, zero, suc, ◌+◌, Bool, true, cond, ◌&&◌, ◌||◌, List, [], ◌∷◌, Option, Some, None, leb, eqb, length}
use Rattle.gather_window.specs.Window.{within}
use Rattle.gather_descriptors.specs.Reading.{length_of, address_of}

-- two ranges of at least one byte, t at p and n at s, share no byte
unfoldable pub apart : ℕ → ℕ → ℕ → ℕ → Bool
apart p t s n = leb (p + t) s || leb (s + n) p

-- the t bytes at p share none with the descriptor at d, nor with its block, if it has one
unfoldable pub clear_of : List ℕ → ℕ → ℕ → ℕ → ℕ → Bool
clear_of w B t p d = apart p t d 16 && (eqb (length_of w B d) 0 || apart p t (address_of w B d) (length_of w B d))

-- the same for all descriptors read
unfoldable pub clear_of_all : List ℕ → ℕ → ℕ → ℕ → List ℕ → Bool
clear_of_all w B t p [] = true
clear_of_all w B t p (d ∷ ds) = clear_of w B t p d && clear_of_all w B t p ds

-- the t bytes at p lie in the window and share none with a block or a descriptor read
unfoldable pub free : List ℕ → ℕ → ℕ → List ℕ → ℕ → Bool
free w B t ds p = within B (length w) p t && clear_of_all w B t p ds

-- the lowest of the k starts from p up that passes the test, if one does
unfoldable pub lowest : ℕ → ℕ → (ℕ → Bool) → Option ℕ
lowest zero p test = None
lowest (suc k) p test = cond (test p) (Some p) (lowest k (p + 1) test)

-- the lowest of the starts from the window's first address to its end, since no other lies in the window
unfoldable pub place_for : List ℕ → ℕ → ℕ → List ℕ → Option ℕ
place_for w B t ds = lowest (suc (length w)) B (free w B t ds)
