-- `read_guid` meets its contract. Assumes nothing.
use mathlib.Core.Path.{◌≡◌}
use Prim.Native.Nat.{◌+◌, ◌-◌}
use native.Mathlib.Omega.{arith}
use Rattle.fields.specs.Guid.{guid}
use Rattle.fields.proofs.read_guid.Goals as goal

pub returns : goal.returns
unfolding guid
returns c =
    let m : c.args.at + 16 - c.args.at ≡ 16 = omega arith in
    rw m at c.copy_from_slice.ensures.after
