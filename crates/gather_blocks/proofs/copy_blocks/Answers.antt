-- `copy_blocks` meets its contract. Assumes nothing.
use mathlib.Core.Path.{refl, ap, ◌∙◌}
use Prim.Native.Nat.{ℕ, ◌+◌}
use native.Mathlib.Omega.{arith}
use lib.ListN.{get_or}
use Rattle.gather_blocks.specs.Copy.{Ready}
use Rattle.gather_blocks.proofs.Copy.{ready, after, next, none_yet, at_start}
use Rattle.gather_blocks.proofs.copy_blocks.Goals as goal

pub loop-d-init : goal.loop-d-init
loop-d-init c =
    let a = c.args in
    (none_yet a.w.now a.base a.p, at_start a.w.now a.base a.p, refl)

pub copy_block-q-requires : goal.copy_block-q-requires
copy_block-q-requires c =
    let a = c.args in
    let i = c.loop-d.invariant in
    rw (i.0, i.1) (ready a.w.now a.base a.descriptors.now a.p c.requires.0 c.requires.1 c.loop-d.d-index c.loop-d-test.true)

pub overflow_add-q : goal.overflow_add-q
overflow_add-q c =
    let a = c.args in
    let i = c.loop-d.invariant in
    let readied : Ready c.loop-d.w a.base (get_or a.descriptors.now c.loop-d.d-index 0) c.loop-d.q =
    rw (i.0, i.1) (ready a.w.now a.base a.descriptors.now a.p c.requires.0 c.requires.1 c.loop-d.d-index c.loop-d-test.true) in
    omega (arith, readied.room, c.copy_block-q.ensures.0)

pub loop-d-preserved : goal.loop-d-preserved
loop-d-preserved c =
    let a = c.args in
    let i = c.loop-d.invariant in
    let e = c.copy_block-q.ensures in
    let ds = a.descriptors.now in
    let k = c.loop-d.d-index in
    let t = rw (← i.0, ← i.1) at (after a.w.now a.base ds a.p c.requires.0 c.requires.1 k c.loop-d-test.true) in
    let n = rw (← i.0, ← i.1) at (next a.w.now a.base ds a.p c.requires.0 c.requires.1 k c.loop-d-test.true) in
    (e.1 ∙ t, ap (λ (k : ℕ). c.loop-d.q + k) e.0 ∙ n, c.copy_block-q.auto.w ∙ i.2)
