-- The set of committed images that Staging carries (S1). A set is a number, image i its bit i; r is the bytes of a
-- record. Assumes nothing.
use Rattle.std.specs.Prelude.{ℕ, ◌-◌, ◌^◌, Bool, ◌&&◌, List, eqb, ltb}
use Rattle.std.specs.Int.Bits.{bit_or}
use Rattle.std.specs.Int.Count.{ones_in}
use Rattle.record_layout.specs.Layout.{state, image_count}
use Rattle.record_layout.specs.Rules.{invalid}
use Rattle.update_changes.specs.NewRecord.{update_bank_of}

-- the set with image i too: bit i (S8)
unfoldable pub joined : (i set : ℕ) → ℕ
joined i set = bit_or set (2 ^ i)

-- how many bits a set has (S1)
abbrev pub set_bits : ℕ
set_bits = 32

-- how many images are missing: the image count less the set's count of ones (N27)
unfoldable pub missing : (set : ℕ) (r : List ℕ) → ℕ
missing set r = image_count r - ones_in set_bits set

-- N24 is for a Staging session with that bank and set where this fails. That a number below 2 to the power of the count
-- has no bit at or past it, and no other number, is a law (specs/SetLaws.antt)
unfoldable pub staged_fits : (bank set : ℕ) (r : List ℕ) → Bool
staged_fits bank set r = eqb bank (update_bank_of r) && (eqb (state r bank) invalid && ltb set (2 ^ image_count r))
