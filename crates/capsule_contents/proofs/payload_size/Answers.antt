-- `payload_size` meets its contract: sums that were capped before. Assumes nothing.
use Rattle.capsule_contents.specs.Sizes.{payload_size}
use Rattle.capsule_contents.proofs.Caps.{cap_left}
use Rattle.capsule_contents.proofs.payload_size.Goals as goal

pub returns : goal.returns
unfolding payload_size
returns c =
    rw (
      c.add_capped-2.ensures,
      c.add_capped.ensures,
      c.header_length.ensures,
      c.read32.ensures,
      c.read64-code.ensures,
      c.read64-image.ensures,
    )
    (cap_left _ _)
