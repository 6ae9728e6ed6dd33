-- Laws of lists of tests. Assumes nothing.
use mathlib.Core.Path.{◌≡◌, refl}
use mathlib.Core.Bool.{Bool, true, false}
use mathlib.Core.List.{List, [], ◌∷◌, ◌++◌}
use Prim.Native.Nat.{ℕ}
use native.Mathlib.Omega.{arith}
use Rattle.refusals.specs.declared.Refusal.{Refusal}
use Rattle.refusal_order.specs.Decide.{Decision, passed, refusal, refused, Test, decide}

pub never : (number : ℕ) (values : List ℕ) → passed ≡ refusal number values → ⊥
never number values e = let z : ◌≡◌ {A = ℕ} 0 1 = cc in omega arith

-- a test that found a fault decides, one that found none leaves it to those after it
pub found : (b : Bool) (why : Refusal) (ts : List Test) → b ≡ true → refused why ≡ decide ((b, why) ∷ ts)
unfolding decide
found b why ts e = rw e

pub missed : (b : Bool) (why : Refusal) (ts : List Test) (d : Decision) → b ≡ false → d ≡ decide ts → d ≡ decide ((b, why) ∷ ts)
unfolding decide
missed b why ts d e h = rw (e, h)

-- tests before others
pub refused_before : (xs ys : List Test) (number : ℕ) (values : List ℕ) → refusal number values ≡ decide xs → refusal number values ≡ decide (xs ++ ys)
unfolding decide
refused_before [] ys number values e = let z : ◌≡◌ {A = ℕ} 0 1 = cc in absurd (omega arith)
refused_before ((true, why) ∷ xs) ys number values e = e
refused_before ((false, why) ∷ xs) ys number values e = refused_before xs ys number values e

pub passed_before : (xs ys : List Test) (d : Decision) → passed ≡ decide xs → d ≡ decide ys → d ≡ decide (xs ++ ys)
unfolding decide
passed_before [] ys d e h = h
passed_before ((true, why) ∷ xs) ys d e h = absurd (never _ _ e)
passed_before ((false, why) ∷ xs) ys d e h = passed_before xs ys d e h

-- and read back: what is accepted passed both parts
pub passed_first : (xs ys : List Test) → passed ≡ decide (xs ++ ys) → (passed ≡ decide xs) × (passed ≡ decide ys)
unfolding decide
passed_first [] ys e = (refl, e)
passed_first ((true, why) ∷ xs) ys e = absurd (never _ _ e)
passed_first ((false, why) ∷ xs) ys e = passed_first xs ys e

-- no test of the list found a fault
abbrev pub NoFault : List Test → Type 0
NoFault [] = Unit {0}
NoFault (t ∷ ts) = (t.0 ≡ false) × NoFault ts

pub no_fault : (ts : List Test) → passed ≡ decide ts → NoFault ts
unfolding decide
no_fault [] e = tt
no_fault ((true, why) ∷ ts) e = absurd (never _ _ e)
no_fault ((false, why) ∷ ts) e = (refl, no_fault ts e)

-- two lists that decide alike where what stands before them found no fault
pub same_after : (xs ys zs : List Test) → (passed ≡ decide xs → decide ys ≡ decide zs) → decide (xs ++ ys) ≡ decide (xs ++ zs)
unfolding decide
same_after [] ys zs h = h refl
same_after ((true, why) ∷ xs) ys zs h = refl
same_after ((false, why) ∷ xs) ys zs h = same_after xs ys zs h
