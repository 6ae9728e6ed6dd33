-- `copy_block` meets its contract. Assumes nothing.
use mathlib.Core.Path.{sym, ◌∙◌}
use native.Mathlib.Omega.{arith}
use Rattle.gather_blocks.proofs.Copy.{no_block, block_put}
use Rattle.gather_blocks.proofs.copy_block.Goals as goal

pub returns-in_default : goal.returns-in_default
returns-in_default c =
    let a = c.args in
    (sym c.in_default.ensures, no_block a.w.now a.base a.d a.q c.in_default.ensures)

pub returns : goal.returns
returns c =
    let a = c.args in
    let b = c.in-Some.ensures in (
      omega (arith, b.ends),
      c.copy_within.ensures.after ∙ block_put a.w.now a.base a.d a.q c.in-Some.block c.requires.readable b,
    )
