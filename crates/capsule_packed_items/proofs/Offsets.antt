-- The list of offsets as it is written: how long it is, and what the tables' sizes come to. Assumes nothing.
use mathlib.Core.Path.{◌≡◌, ◌∙◌}
use mathlib.Core.List.{List}
use Prim.Native.Nat.{ℕ, ◌+◌, ◌*◌, ◌<◌}
use native.Mathlib.Nat.{mul_comm}
use native.Mathlib.Omega.{arith}
use lib.ListN.{length}
use Rattle.fields.specs.Number.{bytes}
use Rattle.fields.specs.Joined.{joined}
use Rattle.fields.proofs.Number.{length_bytes}
use Rattle.fields.proofs.Joined.{joined_length}
use Rattle.capsule_contents.specs.Sizes.{cap, size_cap, item_size, sum}
use Rattle.capsule_contents.proofs.Caps.{cap_low, sum_each}

-- the offset of item k of so many, and its bytes
abbrev pub offset_for : (drivers payloads : List ℕ) (items k : ℕ) → ℕ
offset_for drivers payloads items k = 8 + 8 * items + sum k (item_size drivers payloads)

abbrev pub offset_bytes : (drivers payloads : List ℕ) (items k : ℕ) → List ℕ
offset_bytes drivers payloads items k = bytes 8 (offset_for drivers payloads items k)

pub offsets_long : (drivers payloads : List ℕ) (items k : ℕ) → length (joined k (offset_bytes drivers payloads items)) ≡ 8 * k
offsets_long drivers payloads items k =
    let g = offset_bytes drivers payloads items in
    joined_length 8 k g (λ j h. length_bytes 8 (offset_for drivers payloads items j)) ∙ mul_comm k 8

-- no summand of a sum below the cap is capped
pub uncapped : (n k r : ℕ) (f : ℕ → ℕ) → k < n → sum n f < size_cap → r ≡ cap (f k) → r ≡ f k
uncapped n k r f h low e = e ∙ cap_low (f k) (omega (arith, sum_each n k f h))
