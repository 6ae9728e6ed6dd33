-- The capsule's header (C1 to C6), in a capsule s. Sizes are whole numbers. Each number reads bytes past the end of s
-- as 0; what is said of a capsule below 28 bytes is refusal 10 alone. Assumes nothing.
use Rattle.std.specs.Prelude.{ℕ, ◌/◌, ◌%◌, Bool, not, ◌&&◌, ◌||◌, List, [], ◌∷◌, leb, eqb, length, drop}
use Rattle.fields.specs.Number.{le}
use Rattle.fields.specs.Guid.{guid, same}

-- the least length and the fields of a header (C1)
abbrev pub header_least : ℕ
header_least = 28

unfoldable pub header_size : List ℕ → ℕ
header_size s = le 4 s 16

unfoldable pub flags : List ℕ → ℕ
flags s = le 4 s 20

unfoldable pub capsule_image_size : List ℕ → ℕ
capsule_image_size s = le 4 s 24

-- HeaderSize at both ends, and CapsuleImageSize against the length given (C2, C3)
unfoldable pub sizes_right : List ℕ → Bool
sizes_right s =
    leb header_least (header_size s) && leb (header_size s) (capsule_image_size s) && eqb (capsule_image_size s) (length s)

-- whether the one bit of mask (a power of 2) is set in f
abbrev pub is_set : ℕ → ℕ → Bool
is_set mask f = eqb (f / mask % 2) 1

abbrev pub persist : ℕ
persist = 0x00010000

abbrev pub reset : ℕ
reset = 0x00040000

-- C4: reset needs persist
unfoldable pub flags_right : ℕ → Bool
flags_right f = not (is_set reset f) || is_set persist f

-- C5: that of firmware management capsules (UEFI 2.10, 23.3.1)
abbrev pub fmp_guid : List ℕ
fmp_guid =
    0xed ∷ 0xd5 ∷ 0xcb ∷ 0x6d ∷ 0x2d ∷ 0xe8 ∷ 0x44 ∷ 0x4c ∷ 0xbd ∷ 0xa1 ∷ 0x71 ∷ 0x94 ∷ 0x19 ∷ 0x9a ∷ 0xd9 ∷ 0x2a ∷ []

unfoldable pub guid_right : List ℕ → Bool
guid_right s = same (guid s 0) fmp_guid

-- C6: from HeaderSize on
unfoldable pub body : List ℕ → List ℕ
body s = drop (header_size s) s
