-- `word` meets its contract: the header's words, and the entries'. Assumes nothing.
use mathlib.Core.Path.{sym, ◌∙◌}
use native.Mathlib.Omega.{arith}
use Rattle.record_alterations.proofs.Words.{altered_other, altered_active, altered_previous, altered_states}
use Rattle.record_alterations.proofs.Altered.word.Goals as goal

pub returns-in-8 : goal.returns-in-8
returns-in-8 c =
    let s = c.args.self.now in
    rw c.in-8.is (sym (altered_active s.x s.r.now s.banks s.alterable (omega (arith, c.type_inv.self))))

pub returns-in-12 : goal.returns-in-12
returns-in-12 c =
    let s = c.args.self.now in
    rw c.in-12.is (sym (altered_previous s.x s.r.now s.banks s.alterable (omega (arith, c.type_inv.self))))

pub returns-in-24 : goal.returns-in-24
returns-in-24 c =
    let s = c.args.self.now in
    rw c.in-24.is (sym (altered_states s.x s.r.now s.banks s.alterable (omega (arith, c.type_inv.self))))

pub returns-in_default : goal.returns-in_default
returns-in_default c =
    let s = c.args.self.now in
    let w = c.requires in
    c.read32.ensures
    ∙ sym
    (altered_other s.x s.r.now s.banks s.alterable c.args.o (omega (arith, w.whole, c.if-o-lt-HEADER.true)) w.whole (λ z. omega arith)
    (λ z. omega arith) (λ z. omega arith))
