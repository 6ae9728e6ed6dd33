-- `shared_end` meets its contract: what meets a range meets it up to the range's end. Assumes nothing.
use mathlib.Core.Path.{◌≡◌, sym, ◌∙◌}
use mathlib.Core.Bool.{true}
use Prim.Native.Nat.{ℕ, ◌+◌, ◌-◌, ◌≤◌}
use native.Mathlib.Omega.{arith}
use borrow.Author.Tests.{not-true, not-false}
use Rattle.gather_descriptors.specs.Reading.{length_of}
use Rattle.gather_place.specs.Place.{apart}
use Rattle.gather_place.proofs.Ranges.{apart_at, clear_no_block, past_descriptor, past_block}
use Rattle.gather_place.proofs.shared_end.Goals as goal

pub returns-then-share : goal.returns-then-share
returns-then-share c =
    let a = c.args in
    past_descriptor a.w.now a.base a.d a.p a.t c.requires.0 (not-true _ (sym c.if-share.ensures))

-- an address and its offset
clear_at : (B p t d : ℕ) → B ≤ d → apart p t (d - B) 16 ≡ true → apart (B + p) t d 16 ≡ true
clear_at B p t d low e = apart_at B p t d 16 low ∙ e

pub returns-in_err-block : goal.returns-in_err-block
returns-in_err-block c =
    let a = c.args in
    rw c.from_residual.ensures
    (clear_no_block a.w.now a.base a.t (a.base + a.p) a.d
    (clear_at _ _ _ _ c.requires.0.low (not-false _ (sym c.if-share.ensures)))
    c.in_err-block.ensures)

pub returns : goal.returns
returns c =
    let a = c.args in
    let b = c.in_ok-block.ensures in
    let n : c.len-n.result ≡ length_of a.w.now a.base a.d = omega (arith, c.len-n.ensures.value, b.ends) in
    rw c.then_some.ensures
    (past_block a.w.now a.base a.d a.p a.t c.in_ok-block.block c.requires.0 b
    (clear_at _ _ _ _ c.requires.0.low (not-false _ (sym c.if-share.ensures))) _ n _ c.share-2.ensures)
