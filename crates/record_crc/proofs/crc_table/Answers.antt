-- `crc_table` meets its contract: the test is computed over all 256 entries, here alone. Assumes nothing.
use mathlib.Core.Path.{refl}
use Rattle.record_crc.specs.Crc.{division_step, steps}
use Rattle.record_crc.proofs.Lookup.{table_right}
use Rattle.record_crc.proofs.crc_table.Goals as goal

pub returns : goal.returns
unfolding division_step steps
returns c = table_right _ refl refl
