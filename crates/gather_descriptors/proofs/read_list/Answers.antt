-- `read_list` meets its contract. Assumes nothing.
use mathlib.Core.Path.{◌≡◌, sym, ◌∙◌}
use mathlib.Core.Bool.{true, false}
use Prim.Native.Nat.{◌+◌, ◌-◌, ◌^◌}
use native.Mathlib.Omega.{arith}
use borrow.Author.Tests.{ltb-false, not-true, not-false}
use lib.ListN.{length}
use Rattle.gather_window.specs.Window.{past_window_end}
use Rattle.gather_descriptors.specs.Reading.{reading}
use Rattle.gather_descriptors.specs.Scratch.{ScratchHolds}
use Rattle.gather_descriptors.proofs.Steps.{below}
use Rattle.gather_descriptors.proofs.read_list.Goals as goal

pub returns-then-not-window_fits : goal.returns-then-not-window_fits
unfolding reading ScratchHolds
returns-then-not-window_fits c =
    let a = c.args in
    let e : past_window_end a.base (length a.w.now) ≡ true =
    not-false _ (sym c.window_fits.ensures ∙ c.if-not-window_fits.true) in
    rw e

pub returns-then-first-base : goal.returns-then-first-base
unfolding reading
returns-then-first-base c =
    let in_window : past_window_end c.args.base (length c.args.w.now) ≡ false = not-true _ (sym c.window_fits.ensures ∙ c.if-not-window_fits.false) in
    let a = c.args in
    rw in_window (below a.w.now a.base a.first 0 256 0 a.ds.now a.ds.now (λ z. absurd (omega arith)) c.if-first-base.true)

pub run-requires : goal.run-requires
run-requires c =
    let in_window : past_window_end c.args.base (length c.args.w.now) ≡ false = not-true _ (sym c.window_fits.ensures ∙ c.if-not-window_fits.false) in
    let a = c.args in
    omega (arith, ltb-false (2 ^ 64) (a.base + length a.w.now) in_window)

pub returns : goal.returns
unfolding reading
returns c =
    let in_window : past_window_end c.args.base (length c.args.w.now) ≡ false = not-true _ (sym c.window_fits.ensures ∙ c.if-not-window_fits.false) in
    let a = c.args in
    let e : a.base + (a.first - a.base) ≡ a.first = omega arith in
    rw in_window (rw e at c.run.ensures)
