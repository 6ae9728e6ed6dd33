-- `read64` meets its contract: byte by byte. Assumes nothing.
use Prim.Native.Nat.{◌+◌}
use native.Mathlib.Omega.{arith}
use Rattle.fields.proofs.Number.{le_next, le_at, le_none}
use Rattle.fields.proofs.read64.Goals as goal

pub returns : goal.returns
returns c =
    let s = c.args.s.now in
    let i = c.args.at in
    omega (
      arith,
      c.from_le_bytes.ensures,
      le_next 7 s i,
      le_at 6 s i 1,
      le_at 5 s i 2,
      le_at 4 s i 3,
      le_at 3 s i 4,
      le_at 2 s i 5,
      le_at 1 s i 6,
      le_at 0 s i 7,
      le_none s (i + 8),
    )
