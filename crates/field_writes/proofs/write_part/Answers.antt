-- `write_part` meets its contract. The loop's invariant: the first i bytes are put. Assumes nothing.
use Prim.Native.Nat.{◌+◌, ◌-◌}
use mathlib.Core.Path.{◌≡◌, refl, ◌∙◌}
use native.Mathlib.Numerals.{add-one}
use native.Mathlib.Omega.{arith}
use lib.ListN.{length, drop, length-drop, length-set}
use lib.Seq.{paste-zero, paste-suc, get_or-drop}
use Rattle.fields.proofs.Put.{put_paste}
use Rattle.field_writes.proofs.write_part.Goals as goal

pub loop-i-init : goal.loop-i-init
loop-i-init c =
    let a = c.args in
    (paste-zero a.s.now a.at (drop a.from a.t.now), refl)

pub loop-i-preserved : goal.loop-i-preserved
loop-i-preserved c =
    let a = c.args in
    let source = drop a.from a.t.now in
    let long : length source ≡ length a.t.now - a.from = length-drop a.from a.t.now in (
      rw (← get_or-drop a.from a.t.now c.loop-i.i 0, c.loop-i.invariant.0, add-one)
          (paste-suc a.s.now a.at source c.loop-i.i 0 (omega arith) (omega arith)),
      simp length-set c.loop-i.invariant.1,
    )

pub returns : goal.returns
returns c =
    let a = c.args in
    let source = drop a.from a.t.now in
    let long : length source ≡ length a.t.now - a.from = length-drop a.from a.t.now in
    let e : c.loop-i.i ≡ a.n = omega arith in
    let m : a.from + a.n - a.from ≡ a.n = omega arith in
    rw m ((rw e at c.loop-i.invariant.0) ∙ put_paste a.s.now a.at source a.n (omega arith))
