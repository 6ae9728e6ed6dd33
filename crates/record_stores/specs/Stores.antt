-- The stores that put a record into a copy, and a list of stores in a slice of numbers (R22 to R24, R28). c is the
-- bytes of the copy, r those of the record, base the copy's offset in the area. Assumes nothing.
use Rattle.std.specs.Prelude.{ℕ, zero, suc, ◌+◌, ◌*◌, ◌-◌, ◌/◌, cond, List, [], ◌∷◌, ◌++◌, map, eqb, length, drop}
use Rattle.fields.specs.Number.{le}
use Rattle.record_layout.specs.Layout.{version_at}

-- a pair (offset, word) (R22)
abbrev pub Store : Type 0
Store = ℕ × ℕ

-- how many numbers a store slice holds at least: 2,100 pairs (R24)
abbrev pub store_numbers : ℕ
store_numbers = 4200

-- the store of the record's own word at o
abbrev pub store : List ℕ → ℕ → Store
store r o = (o, le 4 r o)

-- the same store in a copy that stands at base
abbrev pub shift : ℕ → Store → Store
shift base s = (base + s.0, s.1)

-- n offsets from o on, one word apart
unfoldable pub offsets : ℕ → ℕ → List ℕ
offsets o zero = []
offsets o (suc n) = o ∷ offsets (o + 4) n

-- every word of the record but its version
unfoldable pub other_words : List ℕ → List ℕ
other_words r = 0 ∷ offsets 8 (length r / 4 - 2)

-- those of the offsets at which the copy holds another word than the record
unfoldable pub differing : List ℕ → List ℕ → List ℕ → List ℕ
differing c r [] = []
differing c r (o ∷ os) = cond (eqb (le 4 c o) (le 4 r o)) (differing c r os) (o ∷ differing c r os)

-- R28: the first store makes the copy's version 0, the last one sets it right, and between them stand the words that
-- differ, so that no mixture is sound, whatever its CRC. Which stores are listed is the team's choice; what is asked of
-- them is said of the calls' and of repair's own lists in crates/proof_power_cuts/specs/PowerCuts.antt, and of `plan`
-- itself in crates/proof_record_cuts/specs/Offsets.antt
unfoldable pub writes : List ℕ → List ℕ → List Store
writes r os = (version_at, 0) ∷ (map (store r) os ++ (store r version_at ∷ []))

unfoldable pub plan : ℕ → List ℕ → List ℕ → List Store
plan base c r = map (shift base) (writes r (differing c r (other_words r)))

-- a list of stores as numbers: offset, word, offset, word
unfoldable pub numbers_of : List Store → List ℕ
numbers_of [] = []
numbers_of (s ∷ ss) = s.0 ∷ s.1 ∷ numbers_of ss

-- a slice of numbers with the list at its front; numbers past it stay (R23)
unfoldable pub with_list : List ℕ → List Store → List ℕ
with_list d ss = numbers_of ss ++ drop (2 * length ss) d
