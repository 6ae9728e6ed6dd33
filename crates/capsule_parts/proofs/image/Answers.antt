-- `image` meets its contract: the image lies in the capsule. Assumes nothing.
use Rattle.capsule_parts.proofs.Parts.{image_lies}
use Rattle.capsule_parts.proofs.image.Goals as goal

pub part_of-requires : goal.part_of-requires
part_of-requires c = image_lies c.args.s.now c.args.k c.in-Ok.p c.in-Ok.ensures.placed.0
