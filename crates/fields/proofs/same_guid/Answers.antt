-- `same_guid` meets its contract: two equal words each are the same 16 bytes, and a word that differs is a byte that
-- does. Assumes nothing.
use mathlib.Core.Path.{sym, ◌∙◌}
use native.Mathlib.Omega.{arith}
use borrow.Author.Tests.{ne_eqb}
use Rattle.fields.proofs.Guid.{first_differs, second_decides}
use Rattle.fields.proofs.same_guid.Goals as goal

pub returns-then-read64 : goal.returns-then-read64
returns-then-read64 c =
    let a = c.args in
    rw (c.read64-then-read64.ensures, c.read64-then-read64-2.ensures)
    (second_decides a.s.now a.t.now a.a a.b
    (λ i. (c.type_inv.s i).fits)
    (λ i. (c.type_inv.t i).fits)
    (omega arith) (omega arith)
    (sym c.read64.ensures ∙ c.if-read64.true ∙ c.read64-2.ensures))

pub returns-else-read64 : goal.returns-else-read64
returns-else-read64 c =
    let a = c.args in
    let p = c.read64.ensures in
    let q = c.read64-2.ensures in
    ne_eqb _ _ c.if-read64.false ∙ sym (first_differs a.s.now a.t.now a.a a.b (λ e. c.if-read64.false (p ∙ e ∙ sym q)))
