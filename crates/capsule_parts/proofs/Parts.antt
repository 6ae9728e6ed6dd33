-- Every part of an item lies in its capsule. Assumes nothing.
use mathlib.Core.Path.{◌≡◌}
use mathlib.Core.List.{List}
use Prim.Native.Nat.{ℕ, ◌≤◌}
use lib.ListN.{length}
use native.Mathlib.Omega.{arith}
use Rattle.std.specs.Prelude.{Result, Ok, Err}
use Rattle.refusals.specs.declared.Refusal.{Refusal}
use Rattle.fields.specs.Part.{part, Lies}
use Rattle.capsule_payloads.proofs.Payload.{payload_fits}
use Rattle.capsule_check.specs.Item.{located}
use Rattle.capsule_check.specs.declared.Item.{Item}
use Rattle.capsule_check.specs.declared.Item.TheVariants.{Driver, Payload}
use Rattle.capsule_check.proofs.Places.{Holds, holds}
use Rattle.fields.proofs.Part.{part_length}
use Rattle.capsule_items.proofs.Items.{item_lies}
use Rattle.capsule_parts.specs.Parts.{image_part, vendor_code_part, image_told, vendor_code_told, PartsLie}
use Rattle.capsule_parts.specs.declared.Places.{Places}

both_lie : (s : List ℕ) (i : Result Item Refusal) → Holds s i → Lies s (image_part s i) × Lies s (vendor_code_part s i)
unfolding Holds
both_lie s (Ok (Driver a e)) h =
    (record { ordered = omega (arith, h.some); inside = h.within }, record { ordered = omega arith; inside = h.within })
both_lie s (Ok (Payload a e)) h =
    let l = part_length s a e h.0.within in
    let f = payload_fits (part s a e) h.1 in
    let some = h.0.some in
    let within = h.0.within in
    (record { ordered = omega arith; inside = omega arith }, record { ordered = omega arith; inside = omega arith })
both_lie s (Err r) h = (record { ordered = omega arith; inside = omega arith }, record { ordered = omega arith; inside = omega arith })

pub parts_lie : (s : List ℕ) (k : ℕ) → PartsLie s k
parts_lie s k = let b = both_lie s (located s k) (holds s k) in record { item = item_lies s k; image = b.0; vendor_code = b.1 }

-- the same of the code's own numbers
module _ (s : List ℕ) (k : ℕ) (p : Places) where
  pub image_lies : image_told p ≡ image_part s (located s k) → (p.image ≤ p.code) × (p.code ≤ length s)
  image_lies e = let l = rw (← e) at (parts_lie s k).image in (l.ordered, l.inside)

  pub vendor_code_lies : vendor_code_told p ≡ vendor_code_part s (located s k) → (p.code ≤ p.end) × (p.end ≤ length s)
  vendor_code_lies e = let l = rw (← e) at (parts_lie s k).vendor_code in (l.ordered, l.inside)
