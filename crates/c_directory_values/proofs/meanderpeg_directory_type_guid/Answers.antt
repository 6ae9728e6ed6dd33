-- `meanderpeg_directory_type_guid` meets its contract: a type GUID that is shown lies in the directory. Assumes nothing.
use mathlib.Core.Path.{sym, ap, ◌∙◌}
use Rattle.fields.specs.Part.{range_of, Lies}
use Rattle.fields.proofs.Part.{part_length}
use Rattle.refusal_order.specs.Decide.{decision_of, reply}
use Rattle.directory_values.specs.Values.{shown_guid}
use Rattle.directory_values.proofs.Lies.{guid_lies}
use Rattle.c_directory_values.proofs.meanderpeg_directory_type_guid.Goals as goal
use Rattle.c_directory_values.proofs.meanderpeg_directory_type_guid.Goals.{After-guid_span-span}

-- where the type GUID lies that is shown
span_lies : (c : After-guid_span-span) → Lies c.args.d.now (range_of c.guid_span-span.result)
span_lies c =
    let a = c.args in
    rw c.guid_span-span.ensures (guid_lies a.d.now a.k (sym c.refusal.ensures ∙ ap decision_of c.in-Ok.is))

pub overflow_sub-part : goal.overflow_sub-part
overflow_sub-part c = (span_lies (goal.at.overflow_sub-part c).After-guid_span-span).ordered

pub returns-in-Ok : goal.returns-in-Ok
unfolding reply shown_guid
returns-in-Ok c =
    let lies = span_lies (goal.at.returns-in-Ok c).After-guid_span-span in
    rw (← c.refusal.ensures, c.in-Ok.is, ← c.guid_span-span.ensures, part_length _ _ _ lies.inside)

pub returns-in-Err : goal.returns-in-Err
unfolding reply
returns-in-Err c = rw (← c.refusal.ensures, c.in-Err.is, c.number.ensures)
