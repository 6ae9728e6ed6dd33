-- `refused_line` meets its contract. Assumes nothing.
use Rattle.std.proofs.Common.{rules}
use Rattle.report_text.specs.Wrote.{Wrote}
use Rattle.refusals.specs.Number.{number_of}
use Rattle.report.specs.Report.{refused_line}
use Rattle.report.proofs.refused_line.Goals as goal

pub line-requires : goal.line-requires
unfolding refused_line
line-requires c = let e = c.new-text.ensures.empty in rw (c.number.ensures, e.0, e.1) c.requires

pub returns : goal.returns
unfolding refused_line
returns c =
    let a = c.args in
    let e = c.new-text.ensures.empty in
    let t = c.line.new.self in
    let whole : Wrote 0 c.len.result (refused_line (number_of a.refusal)) a.out.now t.out.now =
    rw (← c.number.ensures, c.len.ensures) (rw (e.0, e.1) at c.line.ensures.wrote) in
    search (rules, whole)
