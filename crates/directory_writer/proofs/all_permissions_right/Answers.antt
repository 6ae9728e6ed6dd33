-- `all_permissions_right` meets its contract. Assumes nothing.
use Prim.Native.Nat.{ℕ, ◌*◌}
use mathlib.Core.Bool.{Bool}
use mathlib.Core.Path.{refl, sym, ap, ◌∙◌}
use native.Mathlib.Nat.{add-zero}
use lib.ListN.{get_or}
use Rattle.std.proofs.Common.{rules}
use Rattle.record_layout.proofs.Below.{below_same}
use Rattle.record_layout.proofs.Every.{below_from_all}
use Rattle.directory_layout.specs.Layout.{permissions_right}
use Rattle.directory_writer.proofs.all_permissions_right.Goals as goal

pub returns : goal.returns
returns c =
    let a = c.args in
    let given : ℕ → Bool = λ k. permissions_right (get_or a.words.now k 0) in
    below_from_all (λ i. given (i * 4)) a.images _ _ c.all.result refl c.all.ensures.ran (λ x b q k. search rules)
    ∙ below_same _ _ a.images (λ i h. ap given (sym (add-zero (i * 4))))
