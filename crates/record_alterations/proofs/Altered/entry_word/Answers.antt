-- `entry_word` meets its contract: the offset tells the image and the place in its entry. Assumes nothing.
use mathlib.Core.Path.{◌∙◌}
use Prim.Native.Nat.{◌+◌, ◌-◌, ◌/◌, ◌<◌, ◌≤◌}
use native.Mathlib.Omega.{arith}
use Rattle.std.proofs.Common.{rules}
use Rattle.record_alterations.proofs.Words.{entry_flag, entry_other}
use Rattle.record_alterations.proofs.Altered.entry_word.Goals as goal
use Rattle.record_alterations.proofs.Altered.entry_word.Goals.{else-o-size-via-then-o-size+else-contains, else-o-size-via-else-o-size}

pub returns-then-contains : goal.returns-then-contains
returns-then-contains c =
    let s = c.args.self.now in
    let i : (s.x.first ≤ (c.args.o - 40) / c.entry_size-size.result) × ((c.args.o - 40) / c.entry_size-size.result < s.x.first +
    s.x.count) = search rules in
    entry_flag s.x s.r.now s.banks s.alterable c.args.o c.entry_size-size.result c.requires c.entry_size-size.ensures
    (omega (arith, c.type_inv.self)) c.if-o-size.true i.0 i.1

pub returns : goal.returns
returns c =
    let s = c.args.self.now in
    c.read32.ensures
    ∙ entry_other s.x s.r.now s.banks s.alterable c.args.o c.entry_size-size.result c.requires c.entry_size-size.ensures
    (elim c.else-o-size.branch [
      | else-o-size-via-then-o-size+else-contains w ↦ λ m low high. search rules
      | else-o-size-via-else-o-size w ↦ λ m low high. w.if-o-size.false m
    ])
