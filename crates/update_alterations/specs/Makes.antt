-- What the functions that make an alteration answer. Nothing here is needed to read an entry's promise. r is the bytes
-- of a record. Assumes nothing.
use Rattle.std.specs.Prelude.{ℕ, cond, List, ◌≡◌}
use Rattle.record_layout.specs.Layout.{active}
use Rattle.record_layout.specs.Rules.{accepted_bank}
use Rattle.record_alterations.specs.declared.Alteration.{Alteration}
use Rattle.record_alterations.specs.Fields.{set_state, with_crc}
use Rattle.record_alterations.specs.Altered.{altered_by, Within}
use Rattle.update_changes.specs.NewRecord.{completes}

-- the alteration makes the new record of r, and names banks and images that r has
pub record Makes (x : Alteration) (r new : List ℕ) : Type 0 where
  pub new_is : with_crc (altered_by x r) ≡ new
  pub within : Within x r

-- r with its active bank 252, where every image there is accepted once image i is
abbrev pub with_full : (i : ℕ) (r : List ℕ) → List ℕ
with_full i r = cond (completes i r) (set_state (active r) accepted_bank r) r
