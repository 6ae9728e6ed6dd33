-- A record with one field anew, and one with its CRC anew (S17). r is the bytes of a record. Assumes nothing.
use Rattle.std.specs.Prelude.{ℕ, List, [], ◌∷◌}
use Rattle.fields.specs.Number.{bytes, put}
use Rattle.record_layout.specs.Layout.{crc_at, active_at, previous_at, state_at, accepted_at, bank_count}
use Rattle.record_layout.specs.Rules.{crc_of}

-- one field anew, every other byte as it was
unfoldable pub set_active : ℕ → List ℕ → List ℕ
set_active b r = put r active_at (bytes 4 b)

unfoldable pub set_previous : ℕ → List ℕ → List ℕ
set_previous b r = put r previous_at (bytes 4 b)

unfoldable pub set_state : (b s : ℕ) → List ℕ → List ℕ
set_state b s r = put r (state_at b) (s ∷ [])

unfoldable pub set_accepted : (i b flag : ℕ) → List ℕ → List ℕ
set_accepted i b flag r = put r (accepted_at (bank_count r) i b) (bytes 4 flag)

-- the CRC worked anew
unfoldable pub with_crc : List ℕ → List ℕ
with_crc r = put r crc_at (bytes 4 (crc_of r))
