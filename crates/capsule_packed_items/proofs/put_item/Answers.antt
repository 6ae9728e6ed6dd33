-- `put_item` meets its contract: a driver's bytes, or a payload. Assumes nothing.
use Prim.Native.Nat.{◌<◌, ◌≤◌}
use native.Mathlib.Omega.{arith}
use Rattle.capsule_contents.specs.Given.{given}
use Rattle.capsule_contents.specs.Lent.{drivers_in}
use Rattle.capsule_packed_items.proofs.Items.{driver_bytes, driver_size, driver_within, payload_bytes_lem, payload_ready}
use Rattle.capsule_packed_items.proofs.put_item.Goals as goal

pub put_part-requires : goal.put_part-requires
put_part-requires c =
    let x = given c.args.lending.now in
    let low : c.args.k < drivers_in x.driver_table = omega arith in (
      omega arith,
      driver_within x c.args.k low c.requires.parts,
      omega (arith, driver_size x c.args.k low, c.requires.fits),
    )

pub returns-then-k-first : goal.returns-then-k-first
returns-then-k-first c =
    let x = given c.args.lending.now in
    let low : c.args.k < drivers_in x.driver_table = omega arith in
    rw (driver_bytes x c.args.k low) c.put_part.ensures

pub put_payload-requires : goal.put_payload-requires
put_payload-requires c =
    let x = given c.args.lending.now in
    let high : drivers_in x.driver_table ≤ c.args.k = omega arith in
    rw c.drivers_in-first.ensures (payload_ready x c.args.k high c.requires)

pub returns-else-k-first : goal.returns-else-k-first
returns-else-k-first c =
    let x = given c.args.lending.now in
    let high : drivers_in x.driver_table ≤ c.args.k = omega arith in
    rw (payload_bytes_lem x c.args.k high) (rw c.drivers_in-first.ensures at c.put_payload.ensures)
