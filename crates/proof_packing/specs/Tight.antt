-- The tight form of a capsule (C33), of one that the reader takes. s is the bytes of a capsule, b those of its body, p
-- those of a payload's whole item. Assumes nothing.
use Rattle.std.specs.Prelude.{ℕ, ◌+◌, Bool, cond, ◌&&◌, List, eqb, ltb, length}
use Rattle.fields.specs.Number.{le}
use Rattle.capsule_header.specs.Header.{header_least, header_size, body}
use Rattle.capsule_body.specs.Body.{all, drivers, payloads, items, offset, list_end, item}
use Rattle.capsule_payloads.specs.Payload.{vendor_code_end}

-- where the first item begins; with no item, where the body ends
unfoldable pub items_start : List ℕ → ℕ
items_start b = cond (ltb 0 (items b)) (offset b 0) (length b)

-- no spare byte behind the vendor code, and the three reserved bytes 0
unfoldable pub payload_tight : List ℕ → Bool
payload_tight p = eqb (vendor_code_end p) (length p) && eqb (le 3 p 21) 0

-- HeaderSize 28, the first item right after the list, every payload tight. What the reader takes has no empty driver,
-- since offsets rise and lie below the body's length (C10, C11), and no byte between two items (C12)
unfoldable pub tight : List ℕ → Bool
tight s =
    eqb (header_size s) header_least
    && eqb (items_start (body s)) (list_end (body s))
    && all (λ j. payload_tight (item (body s) (drivers (body s) + j))) (payloads (body s))
