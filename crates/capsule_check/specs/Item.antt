-- Where item k of a capsule s lies, and of which kind it is, or the refusal (C8, C12, C13, C22). `Driver a e` and
-- `Payload a e` are an item from byte a of the capsule up to, not including, byte e. Assumes nothing.
use Rattle.std.specs.Prelude.{ℕ, ◌+◌, Bool, true, false, List, Result, Ok, Err, ltb}
use Rattle.capsule_header.specs.Header.{header_size, body}
use Rattle.capsule_body.specs.Body.{drivers, offset, item_end}
use Rattle.capsule_check.specs.Verdict.{item_verdict}
use Rattle.refusals.specs.declared.Refusal.{Refusal}
use Rattle.refusal_order.specs.Decide.{Verdict}
use Rattle.capsule_check.specs.declared.Item.{Item}
use Rattle.capsule_check.specs.declared.Item.TheVariants.{Driver, Payload}

-- offsets count from the body's start (C8), which is at HeaderSize (C6)
unfoldable pub item_start_in : List ℕ → ℕ → ℕ
item_start_in s k = header_size s + offset (body s) k

unfoldable pub item_end_in : List ℕ → ℕ → ℕ
item_end_in s k = header_size s + item_end (body s) k

-- drivers come first (C8)
abbrev pub item_of : Bool → ℕ → ℕ → Item
item_of true a e = Driver a e
item_of false a e = Payload a e

-- the whole capsule is checked before an item is handed out (C22)
abbrev pub found : Verdict → Item → Result Item Refusal
found (Ok x) i = Ok i
found (Err r) i = Err r

-- the item k, or the refusal that stands in its way
unfoldable pub located : List ℕ → ℕ → Result Item Refusal
located s k = found (item_verdict s k) (item_of (ltb k (drivers (body s))) (item_start_in s k) (item_end_in s k))
