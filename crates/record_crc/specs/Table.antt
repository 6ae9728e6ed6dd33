-- The table of CRC-32, by which a whole byte is taken in by one lookup (R29). Assumes nothing.
use Rattle.std.specs.Prelude.{ℕ, ◌<◌, ◌≡◌, List, get_or}
use Rattle.record_crc.specs.Crc.{steps}

-- for each byte, the entry there is what eight steps of the plain division make of that byte
pub record TableRight (t : List ℕ) : Type 0 where
  pub at : (b : ℕ) → b < 256 → get_or t b 0 ≡ steps 8 b
