-- `accepted_after` meets its contract. Assumes nothing.
use mathlib.Core.Path.{refl}
use borrow.Author.Tests.{eq-eqb}
use Rattle.record_layout.proofs.Sound.{sound_long, sound_named}
use Rattle.update_changes.proofs.Banks.{sized}
use Rattle.update_changes.proofs.Setting.{marked_at, marked_other}
use Rattle.update_changes.proofs.accepted_after.Goals as goal

pub returns-then-k-i : goal.returns-then-k-i
returns-then-k-i c =
    rw (c.if-k-i.true, marked_at c.args.r.now c.requires.0 c.args.i c.requires.1, eq-eqb c.args.i c.args.i refl)

pub bank_count-requires : goal.bank_count-requires
bank_count-requires c = sound_long c.args.r.now c.requires.0

pub active-requires : goal.active-requires
active-requires c = sound_long c.args.r.now c.requires.0

pub accepted_word-requires : goal.accepted_word-requires
accepted_word-requires c =
    let r = c.args.r.now in
    rw (c.bank_count.ensures, c.active.ensures) (sized r c.requires.0, c.requires.2, (sound_named r c.requires.0).0)

pub returns-else-k-i : goal.returns-else-k-i
returns-else-k-i c =
    let a = c.args in
    rw (marked_other a.r.now c.requires.0 a.i c.requires.1 a.k c.if-k-i.false, ← c.active.ensures, ← c.accepted_word.ensures)
