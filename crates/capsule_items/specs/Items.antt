-- The part of a capsule that is handed out for a whole item (C17, C18, C24). An `Item` says where the item lies, from
-- byte a of the capsule up to, not including, byte e; a refusal stands in its place. Assumes nothing.
use Rattle.std.specs.Prelude.{Result, Ok, Err}
use Rattle.refusals.specs.declared.Refusal.{Refusal}
use Rattle.fields.specs.Part.{Range, range, empty_at_start}
use Rattle.capsule_check.specs.declared.Item.{Item}
use Rattle.capsule_check.specs.declared.Item.TheVariants.{Driver, Payload}

-- the whole item, of either kind (C18); a refusal answers the empty part at the capsule's start (C24)
abbrev pub item_part : Result Item Refusal → Range
item_part (Ok (Driver a e)) = range a e
item_part (Ok (Payload a e)) = range a e
item_part (Err r) = empty_at_start
