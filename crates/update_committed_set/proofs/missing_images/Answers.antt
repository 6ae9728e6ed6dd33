-- `missing_images` meets its contract. Assumes nothing.
use native.Mathlib.Omega.{arith}
use lib.Count.{ones-le}
use Rattle.record_layout.specs.Layout.{image_count}
use Rattle.update_committed_set.specs.Set.{set_bits, missing}
use Rattle.update_committed_set.proofs.Bits.{ones_in_lem}
use Rattle.update_committed_set.proofs.Known.{known}
use Rattle.update_committed_set.proofs.missing_images.Goals as goal

pub image_count-requires : goal.image_count-requires
image_count-requires c = (known c.args.r.now c.requires.0).header

pub overflow_cast-result : goal.overflow_cast-result
overflow_cast-result c = omega (arith, c.image_count.ensures, (known c.args.r.now c.requires.0).images_high)

pub overflow_sub-result : goal.overflow_sub-result
overflow_sub-result c = rw c.image_count.ensures (ones-le (image_count c.args.r.now) c.args.set c.requires.1)

pub returns : goal.returns
unfolding missing
returns c = rw (ones_in_lem set_bits c.args.set c.ranges.set.fits, c.image_count.ensures)
