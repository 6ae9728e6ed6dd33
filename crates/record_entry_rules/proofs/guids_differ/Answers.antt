-- `guids_differ` meets its contract. Assumes nothing.
use mathlib.Core.Bool.{not}
use mathlib.Core.Path.{refl}
use Rattle.std.proofs.Common.{rules}
use Rattle.fields.specs.Guid.{same, guid_every}
use Rattle.record_layout.specs.Every.{below}
use Rattle.record_layout.proofs.Every.{below_from_all}
use Rattle.record_entry_rules.proofs.guids_differ.Goals as goal

pub returns : goal.returns
returns c =
    let a = c.args in
    let at = guid_every a.step a.first a.s.now in
    below_from_all (λ i. below i (λ j. not (same (at j) (at i)))) a.n _ _ c.all.result refl c.all.ensures.ran (λ x b q k. search rules)
