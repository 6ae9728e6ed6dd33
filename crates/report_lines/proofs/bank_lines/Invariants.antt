-- `bank_lines` meets its contract. The loop's invariant: the lines of the banks below b are written. Assumes nothing.
use mathlib.Core.Path.{◌≡◌}
use Rattle.record_layout.specs.Layout.{bank_count}
use Rattle.report_lines.specs.Lines.{bank_line}
use Rattle.report_lines.proofs.Rows.{Rows}
use Rattle.report_lines.proofs.bank_lines.Given as goal

abbrev pub invariant-loop-b : goal.invariant-loop-b
invariant-loop-b l =
    (l.text.out.ghost_name ≡ l.initial.text.out.ghost_name)
    × Rows (bank_line l.r) (bank_count l.r) l.initial.text.len l.initial.text.out.now l.b-end l.text.len l.b l.text.out.now
