-- `put_word` meets its contract. The loop's invariant: the bytes that are left fit, and with them the word is written.
-- Assumes nothing.
use Prim.Native.Nat.{◌+◌}
use mathlib.Core.Path.{◌≡◌}
use lib.ListN.{drop}
use Rattle.report_text.proofs.Writing.{Left}
use Rattle.report_text.proofs.Text.put_word.Given as goal

abbrev pub invariant-loop-i : goal.invariant-loop-i
invariant-loop-i l =
    (l.self.out.ghost_name ≡ l.fn.self.out.ghost_name)
    × (l.self.len ≡ l.fn.self.len)
    × Left l.fn.self.len (l.fn.self.len + l.i) (drop l.i l.word) l.word l.fn.self.out.now l.self.out.now
