-- `find_place` meets its contract. Assumes nothing.
use mathlib.Core.Path.{◌≡◌, sym}
use mathlib.Core.Logic.{⊎_elim}
use Prim.Native.Nat.{suc, ◌+◌, ◌-◌}
use native.Mathlib.Omega.{arith}
use lib.ListN.{length}
use Rattle.fields.proofs.Tests.{le_or_lt}
use Rattle.gather_place.specs.Place.{free, place_for}
use Rattle.gather_place.proofs.Search.{too_high, not_clear, is_free, lowest_at, lowest_none}
use Rattle.gather_place.proofs.find_place.Goals as goal

pub returns-in_default : goal.returns-in_default
unfolding place_for
returns-in_default c =
    let a = c.args in
    let w = a.w.now in
    let p = a.base + c.loop-p.p in
    sym
    (lowest_at (free w a.base a.t a.descriptors.now) (suc (length w)) a.base p (omega arith) (omega arith)
    (is_free w a.base a.t a.descriptors.now p (omega arith) (omega arith) c.in_default.ensures)
    (λ j le lt.
    let e : a.base + (j - a.base) ≡ j = omega arith in
    rw e at (c.loop-p.invariant.1 (j - a.base) (omega arith))))

pub loop-p-preserved : goal.loop-p-preserved
loop-p-preserved c =
    let a = c.args in
    let e = c.in-Some.ensures in (
      e.1,
      λ q lt.
          ⊎_elim
          (λ le. not_clear a.w.now a.base a.t a.descriptors.now (a.base + q) (e.2 q le lt))
          (λ lower. c.loop-p.invariant.1 q lower)
          (le_or_lt c.loop-p.p q),
    )

pub returns : goal.returns
unfolding place_for
returns c =
    let a = c.args in
    let w = a.w.now in
    sym
    (lowest_none (free w a.base a.t a.descriptors.now) (suc (length w)) a.base (λ j le.
    let e : a.base + (j - a.base) ≡ j = omega arith in
    ⊎_elim
    (λ high. too_high w a.base a.t a.descriptors.now j (omega arith))
    (λ lower. rw e at (c.loop-p.invariant.1 (j - a.base) lower))
    (le_or_lt c.loop-p.p (j - a.base))))
