-- `with_image` meets its contract. Assumes nothing.
use Rattle.update_committed_set.specs.Set.{set_bits, joined}
use Rattle.update_committed_set.proofs.Bits.{one_shifted}
use Rattle.update_committed_set.proofs.with_image.Goals as goal

pub returns : goal.returns
unfolding joined
returns c = rw (one_shifted c.args.i set_bits c.requires)
