-- What `(0..n).all(test)` answers: whether the test holds at every number below n. Assumes nothing.
use mathlib.Core.Path.{◌≡◌, sym, ap, ◌∙◌}
use mathlib.Core.Bool.{Bool, true, false, ◌&&◌, and_assoc, and-true}
use mathlib.Core.List.{List}
use Prim.Native.Nat.{ℕ, zero, suc, ◌+◌}
use native.Mathlib.Nat.{add-zero, zero-add, add-suc, suc-add, sub-zero}
use native.Mathlib.Numerals.{add-one}
use denote.Param.Members.{Mut, Called}
use Rattle.std.specs.declared.ops.Range.{Range}
use Rattle.std.specs.declared.option.Option.{Option}
use Rattle.std.specs.Iterator.{YieldsThen}
use Rattle.std.specs.Option.{MatchOption}
use Rattle.std.specs.List.{FoldsTo, list_all, range_with_len}
use Rattle.std.proofs.iter.Yields.{nat_range_steps}
use Rattle.std.proofs.lemmas.Iterator.{YieldsList-from_range}
use Rattle.std.proofs.lemmas.Iterator.Search.{all_from_yields_List}
use Rattle.record_layout.specs.Every.{below}

-- those below a and the n from a on
below_on : (test : ℕ → Bool) (a n : ℕ) → (below a test && list_all test (range_with_len a n)) ≡ below (a + n) test
unfolding below
below_on test a zero = and-true (below a test) ∙ ap (λ (k : ℕ). below k test) (sym (add-zero a))
below_on test a (suc n) =
    sym (and_assoc (below a test) (test a) (list_all test (range_with_len (a + 1) n)))
    ∙ ap (λ (k : ℕ). below (suc a) test && list_all test (range_with_len k n)) (add-one a)
    ∙ below_on test (suc a) n ∙ ap (λ (k : ℕ). below k test) (suc-add a n ∙ sym (add-suc a n))

pub below_listed : (test : ℕ → Bool) (n : ℕ) → list_all test (range_with_len 0 n) ≡ below n test
unfolding below
below_listed test n = below_on test 0 n ∙ ap (λ (k : ℕ). below k test) (zero-add n)

-- from the clause of `(0..n).all(f)`, where each call of f leaves f as it was and answers the test
pub below_from_all : {F : Type 0} {g : Mut F (ℕ × Unit {0}) Bool} {s : Range ℕ} (test : ℕ → Bool) (n : ℕ) (u : Range ℕ) (f : F) (r : Bool)
    → s ≡ record { start = 0; end = n }
    → (xs : List ℕ) × (o : Option ℕ) × (j : F) × YieldsThen nat_range_steps s xs o u
    × FoldsTo (λ p x q. Called g p (x, tt) true q) f xs j
    × MatchOption o (r ≡ true) (λ x. (r ≡ false) × ((h : F) × Called g j (x, tt) false h))
    → ((x : ℕ) (b : Bool) (q : F) → Called g f (x, tt) b q → (q ≡ f) × (b ≡ test x))
    → r ≡ below n test
below_from_all test n u f r e ran k =
    all_from_yields_List test u f r ran (YieldsList-from_range 0 n n e (sub-zero n)) k ∙ below_listed test n
