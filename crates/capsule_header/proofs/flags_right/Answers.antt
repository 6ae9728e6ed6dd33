-- `flags_right` meets its contract. Assumes nothing.
use borrow.Author.Tests.{ne_eqb}
use Rattle.std.specs.Prelude.{bit_and}
use Rattle.capsule_header.specs.Header.{reset}
use Rattle.capsule_header.proofs.Header.{flags_by_masks}
use Rattle.capsule_header.proofs.flags_right.Goals as goal

pub returns-then-flags-eq0 : goal.returns-then-flags-eq0
returns-then-flags-eq0 c = rw (flags_by_masks c.args.flags, c.if-flags-eq0.true)

pub returns-else-flags-eq0 : goal.returns-else-flags-eq0
returns-else-flags-eq0 c = rw (flags_by_masks c.args.flags, ne_eqb (bit_and c.args.flags reset) 0 c.if-flags-eq0.false)
