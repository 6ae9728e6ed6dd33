-- `all_accepted_after` meets its contract. Assumes nothing.
use borrow.Author.Rules.{rules}
use mathlib.Core.Path.{refl}
use lib.Dec.{eqb}
use Rattle.record_layout.specs.Layout.{active, image_count, accepted}
use Rattle.record_layout.specs.Rules.{all_accepted}
use Rattle.record_layout.proofs.Every.{below_from_all}
use Rattle.record_layout.proofs.Sound.{sound_long}
use Rattle.update_changes.specs.NewRecord.{marked}
use Rattle.update_changes.proofs.Setting.{marked_images}
use Rattle.update_changes.proofs.all_accepted_after.Goals as goal

pub image_count-requires : goal.image_count-requires
image_count-requires c = sound_long c.args.r.now c.requires.0

pub returns : goal.returns
unfolding all_accepted
returns c =
    let r = c.args.r.now in
    let i = c.args.i in
    rw (marked_images r c.requires.0 i c.requires.1)
    (rw c.image_count.ensures at
    (below_from_all (λ k. eqb (accepted (marked i r) k (active r)) 1) c.image_count.result _ _ c.all.result refl c.all.ensures.ran
    (λ x t q k. search rules)))
