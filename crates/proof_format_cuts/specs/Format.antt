-- What the argument asks of a record's format, and of the way a record is written over a copy; no more. c is the bytes
-- of a copy, r those of a record, t those behind it, a those of an area. Assumes nothing.
use Rattle.std.specs.Prelude.{ℕ, ◌+◌, ◌≤◌, ◌<◌, ◌≡◌, ◌≢◌, Bool, true, List, ◌++◌, length, take, drop, get_or}
use Rattle.fields.specs.Number.{Bytes}
use Rattle.record_stores.specs.Stores.{Store}
use Rattle.proof_format_cuts.specs.Area.{after_stores, after_cut, Each}

-- A format: the size of a copy; where the version's low byte stands; how long the record is which a copy starts with,
-- as the copy's own bytes tell; and the rules of soundness, the checksum's among them, over the bytes of a record alone
pub record Format : Type 0 where
  pub copy_size : ℕ
  pub version_at : ℕ
  pub size_of : List ℕ → ℕ
  pub sound : List ℕ → Bool

-- What is asked of it. A sound record tells its own length, whatever stands behind it; its version's low byte is not 0;
-- and it fits a copy. Of the checksum nothing is asked
pub record FormatLaws (F : Format) : Type 0 where
  pub size_told : (r t : List ℕ) → F.sound r ≡ true → F.size_of (r ++ t) ≡ length r
  pub version_marks : (r : List ℕ) → F.sound r ≡ true → get_or r F.version_at 0 ≢ 0
  pub fits : (r : List ℕ) → F.sound r ≡ true → length r ≤ F.copy_size

-- the record in a copy
unfoldable pub record_of : Format → List ℕ → List ℕ
record_of F c = take (F.size_of c) c

-- a copy is sound exactly if its record is (R5)
unfoldable pub sound_copy : Format → List ℕ → Bool
sound_copy F c = F.sound (record_of F c)

-- the two copies of an area
abbrev pub copy0 : Format → List ℕ → List ℕ
copy0 F a = take F.copy_size a

abbrev pub copy1 : Format → List ℕ → List ℕ
copy1 F a = take F.copy_size (drop F.copy_size a)

-- an area: two copies long, and bytes
pub record Area (F : Format) (a : List ℕ) : Type 0 where
  pub long : length a ≡ F.copy_size + F.copy_size
  pub bytes : Bytes a

-- A writer lists the stores that write a record over a copy, with offsets from the copy's start: the copy first, then
-- the record
abbrev pub Writer : Type 0
Writer = List ℕ → List ℕ → List Store

-- a copy, and a sound record to be written over it
pub record Writable (F : Format) (c r : List ℕ) : Type 0 where
  pub long : length c ≡ F.copy_size
  pub bytes : Bytes c
  pub record_bytes : Bytes r
  pub is_sound : F.sound r ≡ true

-- every store lies in the first n bytes
abbrev pub StoresInside : ℕ → List Store → Type 0
StoresInside n ss = Each (λ s. s.0 + 4 ≤ n) ss

-- the record in front of what stood behind its range
abbrev pub over : List ℕ → List ℕ → List ℕ
over r c = r ++ drop (length r) c

-- What is asked of a writer. Its stores stay inside the record's range in the copy; cut anywhere between the first
-- store and the last, they leave the version's low byte 0; and all of them leave the record in front of the old tail
pub record WriterLaws (F : Format) (W : Writer) : Type 0 where
  pub inside : (c r : List ℕ) → Writable F c r → StoresInside (length r) (W c r)
  pub between : (c r : List ℕ) (n : ℕ) → Writable F c r → 0 < n → n < length (W c r) → get_or (after_cut c (W c r) n) F.version_at 0 ≡ 0
  pub ends : (c r : List ℕ) → Writable F c r → after_stores c (W c r) ≡ over r c
