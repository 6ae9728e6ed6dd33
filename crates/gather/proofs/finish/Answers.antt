-- `finish` meets its contract. Assumes nothing.
use mathlib.Core.Path.{◌≡◌, sym, ◌∙◌}
use Prim.Native.Nat.{suc, ◌+◌, ◌-◌}
use native.Mathlib.Omega.{arith}
use lib.ListN.{length}
use Rattle.std.specs.Prelude.{Some, None}
use Rattle.std.proofs.lemmas.Result.{err_from_is_err_and}
use Rattle.refusals.specs.declared.Refusal.TheVariants.{NoPlace}
use Rattle.gather_place.specs.Place.{free, place_for}
use Rattle.gather_place.proofs.Search.{found_at}
use Rattle.gather.proofs.Ends.{total_zero, no_place, at_place}
use Rattle.gather.proofs.finish.Goals as goal

pub returns-then-total-eq0 : goal.returns-then-total-eq0
returns-then-total-eq0 c =
    let a = c.args in
    total_zero a.w.now a.base a.total a.descriptors.now c.if-total-eq0.true

pub returns-in_err-address : goal.returns-in_err-address
returns-in_err-address c =
    let a = c.args in
    let p = err_from_is_err_and c.from_residual.result c.from_residual.ensures.1 in
    let none : c.find_place.result ≡ None = grind arith in
    let which : c.in_err-address.field-0.0 ≡ NoPlace = grind arith in
    rw (p.1, p.2, which) (no_place a.w.now a.base a.total a.descriptors.now c.if-total-eq0.false (sym c.find_place.ensures ∙ none))

pub overflow_sub-address : goal.overflow_sub-address
unfolding place_for
overflow_sub-address c =
    let a = c.args in
    let some : c.find_place.result ≡ Some c.in_ok-address.address = grind arith in
    (found_at (free a.w.now a.base a.total a.descriptors.now) (suc (length a.w.now)) a.base c.in_ok-address.address
    (sym c.find_place.ensures ∙ some)).0

pub copy_blocks-requires : goal.copy_blocks-requires
unfolding place_for
copy_blocks-requires c =
    let a = c.args in
    let some : c.find_place.result ≡ Some c.in_ok-address.address = grind arith in
    let f = found_at (free a.w.now a.base a.total a.descriptors.now) (suc (length a.w.now)) a.base c.in_ok-address.address
    (sym c.find_place.ensures ∙ some) in
    let e : a.base + (c.in_ok-address.address - a.base) ≡ c.in_ok-address.address = omega arith in
    (c.requires.0, rw (e, ← c.requires.1) f.1)

pub returns : goal.returns
returns c =
    let a = c.args in
    let some : c.find_place.result ≡ Some c.in_ok-address.address = grind arith in
    rw c.copy_blocks.ensures
    (at_place a.w.now a.base a.total a.descriptors.now c.in_ok-address.address c.if-total-eq0.false (sym c.find_place.ensures ∙ some))
