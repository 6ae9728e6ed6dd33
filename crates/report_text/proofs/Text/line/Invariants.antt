-- `line` meets its contract. The loop's invariant: the numbers that are left fit, and with them the line is written.
-- Assumes nothing.
use mathlib.Core.Path.{◌≡◌}
use lib.ListN.{drop}
use Rattle.report_text.specs.Text.{numbers, line}
use Rattle.report_text.proofs.Writing.{Left}
use Rattle.report_text.proofs.Text.line.Given as goal

abbrev pub invariant-loop-x : goal.invariant-loop-x
invariant-loop-x l =
    (l.self.out.ghost_name ≡ l.fn.self.out.ghost_name)
    × Left l.fn.self.len l.self.len (numbers (drop l.x-index l.numbers)) (line l.word l.numbers) l.fn.self.out.now l.self.out.now
