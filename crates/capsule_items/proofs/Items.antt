-- Every item lies in its capsule. Assumes nothing.
use mathlib.Core.Path.{◌≡◌}
use mathlib.Core.List.{List, [], ◌∷◌}
use Prim.Native.Nat.{ℕ, ◌-◌, ◌≤◌}
use native.Mathlib.Omega.{arith}
use Rattle.std.specs.Prelude.{Result, Ok, Err}
use Rattle.refusals.specs.declared.Refusal.{Refusal}
use Rattle.fields.specs.Part.{range, Lies, start_and_length}
use Rattle.fields.proofs.Part.{part_length}
use Rattle.capsule_check.specs.Item.{located}
use Rattle.capsule_check.specs.declared.Item.{Item}
use Rattle.capsule_check.specs.declared.Item.TheVariants.{Driver, Payload}
use Rattle.capsule_check.proofs.Places.{Holds, holds, judged}
use Rattle.capsule_items.specs.Items.{item_part}

pub item_lies : (s : List ℕ) (k : ℕ) → Lies s (item_part (located s k))
unfolding Holds
item_lies s k = go (located s k) (holds s k)
  where
    go : (i : Result Item Refusal) → Holds s i → Lies s (item_part i)
    go (Ok (Driver a e)) h = record { ordered = omega (arith, h.some); inside = h.within }
    go (Ok (Payload a e)) h = record { ordered = omega (arith, h.0.some); inside = h.0.within }
    go (Err r) h = record { ordered = omega arith; inside = omega arith }

-- the two numbers told of an item in hand
told : (s : List ℕ) (k a e : ℕ) → item_part (located s k) ≡ range a e
    → (a ≤ e) × (start_and_length s (item_part (located s k)) ≡ a ∷ (e - a) ∷ [])
told s k a e p =
    let l = rw p at (item_lies s k) in
    (l.ordered, rw p (rw (part_length s a e l.inside)))

module _ (s : List ℕ) (k a e : ℕ) where
  pub driver_told : located s k ≡ Ok (Driver a e) → (a ≤ e) × (start_and_length s (item_part (located s k)) ≡ a ∷ (e - a) ∷ [])
  driver_told q = told s k a e (rw q)

  pub payload_told : located s k ≡ Ok (Payload a e) → (a ≤ e) × (start_and_length s (item_part (located s k)) ≡ a ∷ (e - a) ∷ [])
  payload_told q = told s k a e (rw q)

pub ruleset item_told = (judged, driver_told, payload_told)
