-- `guid_differs` meets its contract. Assumes nothing.
use mathlib.Core.Bool.{not}
use mathlib.Core.Path.{refl}
use Rattle.std.proofs.Common.{rules}
use Rattle.fields.specs.Guid.{same, guid_every}
use Rattle.record_layout.proofs.Every.{below_from_all}
use Rattle.record_entry_rules.proofs.guid_differs.Goals as goal

pub returns : goal.returns
returns c =
    let a = c.args in
    let at = guid_every a.step a.first a.s.now in
    below_from_all (λ j. not (same (at j) (at a.i))) a.i _ _ c.all.result refl c.all.ensures.ran (λ x b q k. search rules)
