-- The capsule's body (C6 to C12), b being its bytes: the counts, the list of offsets and the items. Counts, offsets and
-- sums are whole numbers. Each number reads bytes past the end of b as 0; a body below 8 bytes is at fault whatever it
-- reads, and so is one in which the list does not fit, by C11. Assumes nothing.
use Rattle.std.specs.Prelude.{ℕ, zero, suc, ◌+◌, ◌*◌, Bool, true, cond, ◌&&◌, List, leb, ltb, eqb, length}
use Rattle.fields.specs.Number.{le}
use Rattle.fields.specs.Part.{part}

-- whether p holds of each number below n
unfoldable pub all : (ℕ → Bool) → ℕ → Bool
all p zero = true
all p (suc n) = all p n && p n

-- C6, C8: version, the two counts, the offsets
unfoldable pub body_version : List ℕ → ℕ
body_version b = le 4 b 0

unfoldable pub drivers : List ℕ → ℕ
drivers b = le 2 b 4

unfoldable pub payloads : List ℕ → ℕ
payloads b = le 2 b 6

abbrev pub items : List ℕ → ℕ
items b = drivers b + payloads b

unfoldable pub offset : List ℕ → ℕ → ℕ
offset b k = le 8 b (8 + 8 * k)

-- the end of the list of offsets
abbrev pub list_end : List ℕ → ℕ
list_end b = 8 + 8 * items b

-- C10: the offset of item k against the one before it
unfoldable pub rises : List ℕ → ℕ → Bool
rises b zero = true
rises b (suc k) = ltb (offset b k) (offset b (suc k))

-- an offset lies between the list's end and the body's, and rises (C10, C11)
unfoldable pub offset_right : List ℕ → ℕ → Bool
offset_right b k = leb (list_end b) (offset b k) && ltb (offset b k) (length b) && rises b k

-- how many items there are at most (C9)
abbrev pub item_limit : ℕ
item_limit = 64

-- N14 is for a body where this fails: its length, version, counts or offsets
unfoldable pub body_right : List ℕ → Bool
body_right b =
    leb 8 (length b) && eqb (body_version b) 1 && leb (items b) item_limit && all (offset_right b) (items b)

-- an item ends where the next begins, the last with the body (C12)
unfoldable pub item_end : List ℕ → ℕ → ℕ
item_end b k = cond (ltb (k + 1) (items b)) (offset b (k + 1)) (length b)

-- the bytes of the whole item k
unfoldable pub item : List ℕ → ℕ → List ℕ
item b k = part b (offset b k) (item_end b k)
