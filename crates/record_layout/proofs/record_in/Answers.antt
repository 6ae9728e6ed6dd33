-- `record_in` meets its contract. Assumes nothing.
use mathlib.Core.Path.{◌≡◌, ap, ◌∙◌}
use mathlib.Core.Bool.{cond}
use mathlib.Core.Logic.{⊎_elim}
use Prim.Native.Nat.{ℕ, max}
use native.Mathlib.Omega.{arith}
use borrow.Author.Tests.{le-leb, lt-leb}
use lib.Dec.{leb}
use lib.ListN.{take}
use Rattle.std.proofs.lemmas.List.{take_min}
use Rattle.fields.proofs.Tests.{le_or_lt}
use Rattle.record_layout.specs.Layout.{header_size, size, record_of}
use Rattle.record_layout.proofs.record_in.Goals as goal

at_least : (k n : ℕ) → max n k ≡ cond (leb k n) n k
at_least k n =
    ⊎_elim (λ le. rw (le-leb k n le) (omega arith)) (λ lt. rw (lt-leb k n lt) (omega arith)) (le_or_lt k n)

pub returns : goal.returns
unfolding record_of
returns c =
    let r = c.args.c.now in
    rw (c.min.ensures, c.max.ensures, c.size.ensures) (take_min _ r ∙ ap (λ (n : ℕ). take n r) (at_least header_size (size r)))
