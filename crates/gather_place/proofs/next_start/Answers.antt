-- `next_start` meets its contract. Assumes nothing.
use Prim.Native.Nat.{◌+◌}
use native.Mathlib.Omega.{arith}
use Rattle.gather_place.proofs.Ranges.{one_not_clear, each_clear}
use Rattle.gather_place.proofs.next_start.Goals as goal

pub returns-in-Some : goal.returns-in-Some
returns-in-Some c =
    let a = c.args in
    let e = c.in-Some.ensures in
    (e.0, e.1, λ q le lt. one_not_clear a.w.now a.base a.t (a.base + q) a.descriptors.now c.loop-d.d-index c.loop-d-test.true (e.2 q le lt))

pub returns : goal.returns
returns c =
    let a = c.args in
    each_clear a.w.now a.base a.t (a.base + a.p) a.descriptors.now (λ k lt. c.loop-d.invariant k (omega arith))
