-- Gathering's outcome as the exported function gives it: a number, two numbers behind a pointer, and the window.
-- Assumes nothing.
use Rattle.std.specs.Prelude.{ℕ, List, [], ◌∷◌}
use Rattle.refusal_order.specs.Decide.{Reply, gives, refuses}
use Rattle.gather.specs.Gather.{Answer, refusal, place}
use Rattle.c_reply.specs.Replied.{replied}

-- the place in two numbers, its address and the total; or the refusal
abbrev pub place_reply : Answer → Reply (List ℕ)
place_reply (refusal number) = refuses number []
place_reply (place address total) = gives (address ∷ total ∷ [])

-- the number and what stands behind the pointer (X5), and the window afterwards
abbrev pub exported_place : Answer × List ℕ → (old : List ℕ) → (ℕ × List ℕ) × List ℕ
exported_place outcome old = (replied (place_reply outcome.0) old, outcome.1)
