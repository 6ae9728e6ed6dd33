-- `offsets_right` meets its contract: a list that fits, and every offset. Assumes nothing.
use mathlib.Core.Path.{sym}
use borrow.Author.Rules.{rules}
use borrow.Author.Tests.{lt-leb}
use Prim.Native.Nat.{◌+◌, ◌*◌}
use native.Mathlib.Omega.{arith}
use lib.ListN.{length}
use Rattle.capsule_body.specs.Body.{items, offset_right}
use Rattle.capsule_body.proofs.Body.{list_outside}
use Rattle.capsule_body.proofs.Ranged.{all_from_Range}
use Rattle.capsule_body.proofs.offsets_right.Goals as goal

pub returns-then-n-b : goal.returns-then-n-b
returns-then-n-b c =
    let b = c.args.b.now in
    all_from_Range (offset_right b) (items b) c.all.ensures.ran (omega arith) (λ x t q k. search rules)

pub returns-else-n-b : goal.returns-else-n-b
returns-else-n-b c =
    let a = c.args in
    rw (lt-leb (8 + 8 * a.n) (length a.b.now) c.if-n-b.false) (sym (list_outside a.b.now c.requires.0 (omega arith)))
