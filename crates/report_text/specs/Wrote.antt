-- What the functions that write a text ask and answer, one step at a time. Nothing here is needed to read an entry's
-- promise. Assumes nothing.
use Rattle.std.specs.Prelude.{ℕ, ◌+◌, ◌≤◌, List, ◌≡◌, length}
use Rattle.fields.specs.Number.{put}

-- there is room for a text from k on
abbrev pub Room : ℕ → List ℕ → List ℕ → Type 0
Room k t out = k + length t ≤ length out

-- the text t was written from k on, up to n, and every other byte stayed
pub record Wrote (k n : ℕ) (t out new : List ℕ) : Type 0 where
  pub count : n ≡ k + length t
  pub kept : length new ≡ length out
  pub is : new ≡ put out k t
