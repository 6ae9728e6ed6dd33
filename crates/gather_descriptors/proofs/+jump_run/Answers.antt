-- `run` and `jump` meet their contracts. Assumes nothing.
use mathlib.Core.Path.{◌≡◌, refl, sym, ◌∙◌}
use mathlib.Core.Bool.{Bool, true}
use Prim.Native.Nat.{ℕ, ◌+◌, ◌-◌, ◌≤◌}
use native.Mathlib.Omega.{arith}
use borrow.Author.Tests.{eq-eqb, ne_eqb, le-leb, lt-leb}
use lib.ListN.{length, length-set}
use Rattle.refusals.specs.declared.Refusal.TheVariants.{BlockOutside, TotalLength}
use Rattle.gather_window.specs.Window.{descriptor_fits}
use Rattle.gather_descriptors.specs.Reading.{refused, walk, jump_or_end, data_block, total_limit}
use Rattle.gather_descriptors.specs.Scratch.{ScratchHolds}
use Rattle.gather_descriptors.proofs.Steps.{descriptor_ends, bad_address, went_on, ended, none_left, below, jumped_on}
use Rattle.gather_descriptors.proofs.+jump_run.Goals as goal

pub jump-returns-then-address-eq0 : goal.jump-returns-then-address-eq0
jump-returns-then-address-eq0 t c =
    let s = c.args in
    ended s.address s.total (λ next. walk s.left s.w.now s.base next s.total) (256 - s.left) s.ds.now c.if-address-eq0.true

pub jump-returns-then-left-eq0 : goal.jump-returns-then-left-eq0
jump-returns-then-left-eq0 t c =
    let s = c.args in
    jumped_on s.w.now s.base s.address s.total s.left (256 - s.left) s.ds.now _ _ c.if-address-eq0.false
    (none_left s.w.now s.base s.address s.total s.left (256 - s.left) s.ds.now _ c.if-left-eq0.true)

pub jump-returns-then-address-base : goal.jump-returns-then-address-base
jump-returns-then-address-base t c =
    let s = c.args in
    jumped_on s.w.now s.base s.address s.total s.left (256 - s.left) s.ds.now _ _ c.if-address-eq0.false
    (below s.w.now s.base s.address s.total s.left (256 - s.left) s.ds.now _ c.if-left-eq0.false c.if-address-base.true)

pub jump-returns : goal.jump-returns
jump-returns t c =
    let a = c.args in
    let e : a.base + (a.address - a.base) ≡ a.address = omega arith in
    jumped_on a.w.now a.base a.address a.total a.left (256 - a.left) a.ds.now _ _ c.if-address-eq0.false
    (rw c.handed_on.ensures (rw e at c.run.ensures))

pub run-returns-then-left-eq0 : goal.run-returns-then-left-eq0
run-returns-then-left-eq0 t c =
    let s = c.args in
    none_left s.w.now s.base (s.base + s.at) s.total s.left (256 - s.left) s.ds.now _ c.if-left-eq0.true

pub run-returns-then-not-descriptor_fits : goal.run-returns-then-not-descriptor_fits
run-returns-then-not-descriptor_fits t c =
    let a = c.args in
    bad_address a.w.now a.base a.at a.total a.left a.ds.now _ c.if-left-eq0.false
    (sym c.descriptor_fits.ensures ∙ c.if-not-descriptor_fits.true)

-- past the address test the descriptor lies in the window
inside : (B N at : ℕ) (r : Bool) → r ≡ descriptor_fits B N (B + at) → r ≡ true → at + 16 ≤ N
inside B N at r is fits = omega (arith, descriptor_ends B N (B + at) (sym is ∙ fits))

pub run-overflow_add-ds : goal.run-overflow_add-ds
run-overflow_add-ds t c =
    omega (arith, inside c.args.base (length c.args.w.now) c.args.at _ c.descriptor_fits.ensures c.if-not-descriptor_fits.false)

pub run-read64-size-requires : goal.run-read64-size-requires
run-read64-size-requires t c =
    omega (arith, inside c.args.base (length c.args.w.now) c.args.at _ c.descriptor_fits.ensures c.if-not-descriptor_fits.false)

pub run-overflow_add-at : goal.run-overflow_add-at
run-overflow_add-at t c =
    omega (arith, inside c.args.base (length c.args.w.now) c.args.at _ c.descriptor_fits.ensures c.if-not-descriptor_fits.false)

pub run-read64-address-requires : goal.run-read64-address-requires
run-read64-address-requires t c =
    omega (arith, inside c.args.base (length c.args.w.now) c.args.at _ c.descriptor_fits.ensures c.if-not-descriptor_fits.false)

pub run-jump-requires : goal.run-jump-requires
run-jump-requires t c = simp length-set (omega arith)

pub run-run-requires : goal.run-run-requires
run-run-requires t c = simp length-set (omega arith)

pub run-returns-then-size-eq0 : goal.run-returns-then-size-eq0
run-returns-then-size-eq0 t c =
    let a = c.args in
    went_on a.w.now a.base a.at a.total a.left a.ds.now _ c.if-left-eq0.false _ c.read64-size.result c.read64-address.result
    (sym c.descriptor_fits.ensures ∙ c.if-not-descriptor_fits.false) c.read64-size.ensures c.read64-address.ensures c.requires.0 c.requires.3
    (jump_or_end c.read64-address.result a.total (λ next. walk (a.left - 1) a.w.now a.base next a.total))
    (rw (eq-eqb _ _ c.if-size-eq0.true))
    (rw c.handed_on.ensures c.jump.ensures)

pub run-returns-then-not-block_fits : goal.run-returns-then-not-block_fits
unfolding ScratchHolds data_block
run-returns-then-not-block_fits t c =
    let a = c.args in
    went_on a.w.now a.base a.at a.total a.left a.ds.now _ c.if-left-eq0.false _ c.read64-size.result c.read64-address.result
    (sym c.descriptor_fits.ensures ∙ c.if-not-descriptor_fits.false) c.read64-size.ensures c.read64-address.ensures c.requires.0 c.requires.3
    (refused BlockOutside)
    (rw (ne_eqb _ _ c.if-size-eq0.false, sym c.block_fits.ensures ∙ c.if-not-block_fits.true))
    refl

pub run-returns-then-total-size : goal.run-returns-then-total-size
unfolding ScratchHolds data_block
run-returns-then-total-size t c =
    let a = c.args in
    went_on a.w.now a.base a.at a.total a.left a.ds.now _ c.if-left-eq0.false _ c.read64-size.result c.read64-address.result
    (sym c.descriptor_fits.ensures ∙ c.if-not-descriptor_fits.false) c.read64-size.ensures c.read64-address.ensures c.requires.0 c.requires.3
    (refused TotalLength)
    (rw (
      ne_eqb _ _ c.if-size-eq0.false,
      sym c.block_fits.ensures ∙ c.if-not-block_fits.false,
      lt-leb (a.total + c.read64-size.result) total_limit (omega arith),
    ))
    refl

pub run-overflow_add-at-2 : goal.run-overflow_add-at-2
run-overflow_add-at-2 t c =
    omega (arith, inside c.args.base (length c.args.w.now) c.args.at _ c.descriptor_fits.ensures c.if-not-descriptor_fits.false)

pub run-returns : goal.run-returns
unfolding data_block
run-returns t c =
    let a = c.args in
    let n : a.base + a.at + 16 ≡ a.base + (a.at + 16) = omega arith in
    went_on a.w.now a.base a.at a.total a.left a.ds.now _ c.if-left-eq0.false _ c.read64-size.result c.read64-address.result
    (sym c.descriptor_fits.ensures ∙ c.if-not-descriptor_fits.false) c.read64-size.ensures c.read64-address.ensures c.requires.0 c.requires.3
    (walk (a.left - 1) a.w.now a.base (a.base + (a.at + 16)) (a.total + c.read64-size.result))
    (rw (
      ne_eqb _ _ c.if-size-eq0.false,
      sym c.block_fits.ensures ∙ c.if-not-block_fits.false,
      le-leb (a.total + c.read64-size.result) total_limit (omega arith),
      n,
    ))
    (rw c.handed_on-2.ensures c.run.ensures)
