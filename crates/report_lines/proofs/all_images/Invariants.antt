-- `all_images` meets its contract. The loop's invariant: the lines of the images below i are written. Assumes nothing.
use mathlib.Core.Path.{◌≡◌}
use Rattle.record_layout.specs.Layout.{image_count}
use Rattle.report_lines.specs.Lines.{image_lines}
use Rattle.report_lines.proofs.Rows.{Rows}
use Rattle.report_lines.proofs.all_images.Given as goal

abbrev pub invariant-loop-i : goal.invariant-loop-i
invariant-loop-i l =
    (l.text.out.ghost_name ≡ l.initial.text.out.ghost_name)
    × Rows (image_lines l.r) (image_count l.r) l.initial.text.len l.initial.text.out.now l.i-end l.text.len l.i l.text.out.now
