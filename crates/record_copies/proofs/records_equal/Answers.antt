-- `records_equal` meets its contract. Assumes nothing.
use mathlib.Core.Path.{◌≡◌, refl, sym, ap, ◌∙◌}
use mathlib.Core.Bool.{Bool, true, false}
use mathlib.Core.List.{List}
use Prim.Native.Nat.{ℕ, ◌<◌}
use borrow.Author.Tests.{eqb-true, eq-eqb, ne_eqb}
use lib.Dec.{eqb}
use lib.ListN.{length, get_or}
use lib.Seq.{ext_get_or}
use Rattle.std.proofs.Common.{rules, tests}
use Rattle.fields.specs.Guid.{same}
use Rattle.fields.proofs.Guid.{same_refl, same_false}
use Rattle.fields.proofs.Tests.{no_true}
use Rattle.record_layout.specs.Every.{below}
use Rattle.record_layout.proofs.Below.{below_each, below_all}
use Rattle.record_layout.proofs.Every.{below_from_all}
use Rattle.record_copies.specs.Copies.{records_equal}
use Rattle.record_copies.proofs.records_equal.Goals as goal

abbrev alike : List ℕ → List ℕ → ℕ → Bool
alike x y i = eqb (get_or x i 0) (get_or y i 0)

-- lists of one length are the same where they agree at every place
same_below : (x y : List ℕ) → length x ≡ length y → (b : Bool) → below (length x) (alike x y) ≡ b → b ≡ same x y
same_below x y n true e =
    rw (ext_get_or 0 x y n (λ i lt. eqb-true (get_or x i 0) (get_or y i 0) (below_each (alike x y) (length x) i e lt)))
    (sym (same_refl y))
same_below x y n false e =
    sym
    (same_false x y (λ s.
    no_true
    (sym e
    ∙ below_all (alike x y) (length x) (λ i lt. eq-eqb (get_or x i 0) (get_or y i 0) (ap (λ (l : List ℕ). get_or l i 0) s)))))

pub returns-then-x-y : goal.returns-then-x-y
unfolding records_equal
returns-then-x-y c =
    let x = c.record_at-x.result.now in
    let y = c.record_at-y.result.now in
    let ran = below_from_all (alike x y) (length x) _ _ c.all.result refl c.all.ensures.ran (λ i b q k. search (rules, tests)) in
    (rw (c.record_at-x.ensures, c.record_at-y.ensures) at (same_below x y c.if-x-y.true c.all.result (sym ran)))

pub returns-else-x-y : goal.returns-else-x-y
unfolding records_equal
returns-else-x-y c =
    let x = c.record_at-x.result.now in
    let y = c.record_at-y.result.now in
    let differ : x ≡ y → ⊥ = λ e. c.if-x-y.false (ap length e) in
    ne_eqb (length x) (length y) c.if-x-y.false ∙ (rw (c.record_at-x.ensures, c.record_at-y.ensures) at (sym (same_false x y differ)))
