-- When a copy is sound (R5): the fourteen rules R6 to R19 in their order, each over the bytes r of a record alone.
-- Assumes nothing.
use Rattle.std.specs.Prelude.{ℕ, Bool, true, cond, not, ◌&&◌, ◌||◌, List, [], ◌∷◌, eqb, leb, ltb, length, drop}
use Rattle.record_crc.specs.Crc.{crc32_of}
use Rattle.record_layout.specs.Every.{below, distinct}
use Rattle.record_layout.specs.Layout.{image_limit, bank_limit, version_at, crc, version, active, previous, size, descriptor_offset}
use Rattle.record_layout.specs.Layout.{reserved22, state, reserved28, bank_count, reserved33, image_count, image_entry_size, bank_entry_size}
use Rattle.record_layout.specs.Layout.{entry_size, record_size, type_guid, accepted, reserved, record_of}

-- R6: the version is 2
unfoldable pub version_rule : List ℕ → Bool
version_rule r = eqb (version r) 2

-- R7: 2 to 4 banks
unfoldable pub bank_count_rule : List ℕ → Bool
bank_count_rule r = leb 2 (bank_count r) && leb (bank_count r) bank_limit

-- R8: 1 to 32 images
unfoldable pub image_count_rule : List ℕ → Bool
image_count_rule r = leb 1 (image_count r) && leb (image_count r) image_limit

-- R9: the bank entry size
unfoldable pub bank_entry_size_rule : List ℕ → Bool
bank_entry_size_rule r = eqb (bank_entry_size r) 24

-- R10: the image entry size
unfoldable pub image_entry_size_rule : List ℕ → Bool
image_entry_size_rule r = eqb (image_entry_size r) (entry_size (bank_count r))

-- R11: the size; and the record is as many bytes long. `record_of` takes so many from a copy where the size is from 40
-- to 8,192; a larger one fails here
unfoldable pub size_rule : List ℕ → Bool
size_rule r = eqb (size r) (record_size (bank_count r) (image_count r)) && eqb (length r) (size r)

-- R12: the descriptor offset
unfoldable pub descriptor_offset_rule : List ℕ → Bool
descriptor_offset_rule r = eqb (descriptor_offset r) 32

-- a test at every bank of every image
abbrev pub everywhere : List ℕ → (ℕ → ℕ → Bool) → Bool
everywhere r test = below (image_count r) (λ i. below (bank_count r) (test i))

-- R13: the reserved fields of the header, and each bank's of each image
unfoldable pub reserved_rule : List ℕ → Bool
reserved_rule r =
    (eqb (reserved22 r) 0 && (eqb (reserved28 r) 0 && eqb (reserved33 r) 0)) && everywhere r (λ i b. eqb (reserved r i b) 0)

-- R14: active and previous name banks
unfoldable pub banks_named_rule : List ℕ → Bool
banks_named_rule r = ltb (active r) (bank_count r) && ltb (previous r) (bank_count r)

-- R15: accepted fields are 0 or 1
unfoldable pub accepted_rule : List ℕ → Bool
accepted_rule r = everywhere r (λ i b. leb (accepted r i b) 1)

-- R16: type GUIDs are all different
unfoldable pub type_guids_rule : List ℕ → Bool
type_guids_rule r = distinct (image_count r) (type_guid r)

-- the states of a bank (R17)
abbrev pub invalid : ℕ
invalid = 255

abbrev pub valid : ℕ
valid = 254

abbrev pub accepted_bank : ℕ
accepted_bank = 252

-- R17: one of the three, and 255 past the bank count
abbrev pub state_known : ℕ → Bool
state_known s = eqb s invalid || (eqb s valid || eqb s accepted_bank)

unfoldable pub state_allowed : ℕ → ℕ → ℕ → Bool
state_allowed banks b s = cond (ltb b banks) (state_known s) (eqb s invalid)

unfoldable pub states_rule : List ℕ → Bool
states_rule r = below bank_limit (λ b. state_allowed (bank_count r) b (state r b))

-- every image of bank b is accepted
unfoldable pub all_accepted : List ℕ → ℕ → Bool
all_accepted r b = below (image_count r) (λ i. eqb (accepted r i b) 1)

-- R18: what is accepted in a bank fits its state, and the active bank isn't 255
unfoldable pub bank_consistent : List ℕ → ℕ → Bool
bank_consistent r b =
    cond (eqb (state r b) accepted_bank) (all_accepted r b) (cond (eqb (state r b) valid) (not (all_accepted r b)) true)

unfoldable pub banks_rule : List ℕ → Bool
banks_rule r = below (bank_count r) (bank_consistent r) && not (eqb (state r (active r)) invalid)

-- R4: over bytes 4 to size, where r ends by R11
abbrev pub crc_of : List ℕ → ℕ
crc_of r = crc32_of (drop version_at r)

-- R19: the CRC agrees
unfoldable pub crc_rule : List ℕ → Bool
crc_rule r = eqb (crc r) (crc_of r)

-- the fourteen
abbrev pub rules : List (List ℕ → Bool)
rules =
    version_rule
    ∷ bank_count_rule
    ∷ image_count_rule
    ∷ bank_entry_size_rule
    ∷ image_entry_size_rule
    ∷ size_rule
    ∷ descriptor_offset_rule
    ∷ reserved_rule
    ∷ banks_named_rule
    ∷ accepted_rule
    ∷ type_guids_rule
    ∷ states_rule
    ∷ banks_rule
    ∷ crc_rule
    ∷ []

-- whether each of a list of tests holds
abbrev pub each : List (List ℕ → Bool) → List ℕ → Bool
each [] r = true
each (test ∷ tests) r = test r && each tests r

-- a record is sound where none fails
unfoldable pub sound : List ℕ → Bool
sound r = each rules r

-- a copy is sound exactly if its record is (R5)
unfoldable pub sound_copy : List ℕ → Bool
sound_copy c = sound (record_of c)
