-- `put_capsule` meets its contract: the front, the offsets, the items. Assumes nothing.
use mathlib.Core.Path.{refl}
use native.Mathlib.Omega.{arith}
use lib.ListN.{length}
use Rattle.capsule_contents.specs.Contents.{items_of, item_bytes}
use Rattle.capsule_contents.specs.Given.{given}
use Rattle.capsule_contents.specs.Lent.{contents_of}
use Rattle.capsule_packed_items.proofs.Packing.{list_fits, capsule_put}
use Rattle.capsule_packed_items.proofs.put_capsule.Goals as goal

pub put_front-requires : goal.put_front-requires
put_front-requires c =
    let x = given c.args.lending.now in
    omega (arith, list_fits x (items_of (contents_of x)) (length c.args.out.now) refl c.requires.1)

pub returns : goal.returns
unfolding item_bytes
returns c =
    let x = given c.args.lending.now in
    capsule_put x (items_of (contents_of x)) (length c.args.out.now) refl c.requires.1 c.args.out.now refl
    (rw (c.requires.0, c.drivers_in-drivers.ensures, c.payloads_in-payloads.ensures) at c.put_front.ensures)
    c.put_offsets.ensures c.put_items.ensures
