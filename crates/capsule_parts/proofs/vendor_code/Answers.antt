-- `vendor_code` meets its contract: the vendor code lies in the capsule. Assumes nothing.
use Rattle.capsule_parts.proofs.Parts.{vendor_code_lies}
use Rattle.capsule_parts.proofs.vendor_code.Goals as goal

pub part_of-requires : goal.part_of-requires
part_of-requires c = vendor_code_lies c.args.s.now c.args.k c.in-Ok.p c.in-Ok.ensures.placed.1
