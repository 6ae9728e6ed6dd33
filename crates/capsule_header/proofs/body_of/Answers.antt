-- `body_of` meets its contract: the header ends in the capsule. Assumes nothing.
use native.Mathlib.Omega.{arith}
use Rattle.capsule_header.specs.Header.{header_size}
use Rattle.capsule_header.proofs.Header.{header_in, body_rest}
use Rattle.capsule_header.proofs.body_of.Goals as goal

pub read32-at-requires : goal.read32-at-requires
read32-at-requires c = omega (arith, (header_in c.args.s.now c.requires).0, (header_in c.args.s.now c.requires).1)

pub slice_bounds-result-count : goal.slice_bounds-result-count
unfolding header_size
slice_bounds-result-count c = omega (arith, (header_in c.args.s.now c.requires).1)

pub slice_bounds-result-start : goal.slice_bounds-result-start
unfolding header_size
slice_bounds-result-start c = omega (arith, (header_in c.args.s.now c.requires).1)

pub returns : goal.returns
unfolding header_size
returns c =
    let s = c.args.s.now in
    rw c.read32-at.ensures (body_rest s c.requires)
