-- `update_bank` meets its contract. Assumes nothing.
use native.Mathlib.Omega.{arith}
use mathlib.Core.Path.{refl}
use Rattle.record_layout.proofs.Sound.{sound_long}
use Rattle.update_changes.proofs.Banks.{banks_few, update_in}
use Rattle.update_changes.proofs.update_bank.Goals as goal

pub bank_count-requires : goal.bank_count-requires
bank_count-requires c = sound_long c.args.r.now c.requires

pub active-requires : goal.active-requires
active-requires c = sound_long c.args.r.now c.requires

pub nonzero_rem-result : goal.nonzero_rem-result
nonzero_rem-result c = omega (arith, (banks_few c.args.r.now c.requires).0)

pub returns : goal.returns
returns c = rw (c.active.ensures, c.bank_count.ensures) (refl, update_in c.args.r.now c.requires)
