-- The parts of a capsule s that are handed out for what an item holds (C16, C19, C20). An `Item` says where the item
-- lies, from byte a of the capsule up to, not including, byte e; a refusal stands in its place. Assumes nothing.
use Rattle.std.specs.Prelude.{ℕ, ◌+◌, List, Result, Ok, Err}
use Rattle.refusals.specs.declared.Refusal.{Refusal}
use Rattle.fields.specs.Part.{part, Range, range, Lies, empty_at_start}
use Rattle.capsule_payloads.specs.Payload.{image_start, image_end, vendor_code_end}
use Rattle.capsule_check.specs.declared.Item.{Item}
use Rattle.capsule_check.specs.declared.Item.TheVariants.{Driver, Payload}
use Rattle.capsule_check.specs.Item.{located}
use Rattle.capsule_items.specs.Items.{item_part}
use Rattle.capsule_parts.specs.declared.Places.{Places}

-- C19: a driver's image is its whole item
abbrev pub image_part : List ℕ → Result Item Refusal → Range
image_part s (Ok (Driver a e)) = range a e
image_part s (Ok (Payload a e)) = range (a + image_start (part s a e)) (a + image_end (part s a e))
image_part s (Err r) = empty_at_start

-- C20: a driver's is empty, at its item's end
abbrev pub vendor_code_part : List ℕ → Result Item Refusal → Range
vendor_code_part s (Ok (Driver a e)) = range e e
vendor_code_part s (Ok (Payload a e)) = range (a + image_end (part s a e)) (a + vendor_code_end (part s a e))
vendor_code_part s (Err r) = empty_at_start

-- what the code's own `Places` tells
abbrev pub image_told : Places → Range
image_told p = range p.image p.code

abbrev pub vendor_code_told : Places → Range
vendor_code_told p = range p.code p.end

-- every part that is handed out lies in its capsule, whatever the capsule and the item number
pub record PartsLie (s : List ℕ) (k : ℕ) : Type 0 where
  pub item : Lies s (item_part (located s k))
  pub image : Lies s (image_part s (located s k))
  pub vendor_code : Lies s (vendor_code_part s (located s k))
