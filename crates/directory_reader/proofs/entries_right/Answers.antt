-- `entries_right` meets its contract. Assumes nothing.
use mathlib.Core.Path.{◌≡◌, refl, sym, ◌∙◌}
use Rattle.std.proofs.Common.{rules}
use Rattle.record_layout.specs.Every.{below}
use Rattle.record_layout.proofs.Every.{below_from_all}
use Rattle.directory_reader.specs.Reader.{entry_right, entries_right}
use Rattle.directory_reader.proofs.entries_right.Goals as goal

pub returns-then-all : goal.returns-then-all
unfolding entries_right
returns-then-all c =
    let d = c.args.d.now in
    let every : c.all.result ≡ below c.args.images (entry_right d) =
    below_from_all (entry_right d) c.args.images _ _ c.all.result refl c.all.ensures.ran (λ x b q k. search rules) in
    rw (← c.requires.0, sym every ∙ c.if-all.true) c.guids_differ.ensures

pub returns-else-all : goal.returns-else-all
unfolding entries_right
returns-else-all c =
    let d = c.args.d.now in
    let every : c.all.result ≡ below c.args.images (entry_right d) =
    below_from_all (entry_right d) c.args.images _ _ c.all.result refl c.all.ensures.ran (λ x b q k. search rules) in
    rw (← c.requires.0, sym every ∙ c.if-all.false) c.if-all.false
