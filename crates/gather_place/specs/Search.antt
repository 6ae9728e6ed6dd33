-- What the functions below `find_place` promise each other. Nothing here is needed to read an entry's promise. Assumes
-- nothing.
use Rattle.std.specs.Prelude.{ℕ, ◌≤◌, ◌<◌, Bool, true, false, Option, Some, None, ◌≡◌}

-- the start p passes the test; or there is a start r above p, at most n, and no start from p to below r passes
abbrev pub NextStart : (ℕ → Bool) → ℕ → ℕ → Option ℕ → Type 0
NextStart test n p None = test p ≡ true
NextStart test n p (Some r) = (p < r) × (r ≤ n) × ((q : ℕ) → p ≤ q → q < r → test q ≡ false)
