-- What the report's entry answers lies in the slice that it was lent.
use Rattle.std.proofs.Common.{◌≤◌, length, length-take-le, sym}
use Rattle.report.proofs.Whole.{report_within}
use Rattle.print_report.proofs.main.Goals as goal

pub slice_bounds-text-end : goal.slice_bounds-text-end
slice_bounds-text-end c = report_within _ _ c.report-m.new.out c.report-m.result c.report-m.ensures

pub slice_bounds-write_all-end : goal.slice_bounds-write_all-end
slice_bounds-write_all-end c =
    let m = c.report-m.result in
    let text = c.report-m.new.out in
    let within : m ≤ length text = report_within _ _ text m c.report-m.ensures in
    sym (length-take-le m text within)
