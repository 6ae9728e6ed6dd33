-- Verdicts, and lists of tests of which the first that finds a fault decides (N104, N110). Each entry's definition
-- lists its tests in their order. Assumes nothing.
use Rattle.std.specs.Prelude.{ℕ, Bool, cond, List, [], ◌∷◌, Result, Ok, Err}
use Rattle.refusals.specs.Number.{number_of, values_of}
use Rattle.refusals.specs.declared.Refusal.{Refusal}

-- an input passed, or why not
abbrev pub Verdict : Type 0
Verdict = Result (Unit {0}) Refusal

-- passed; or the number of the refusal and what it tells beside
pub data Decision : Type 0 where
  passed : Decision
  refusal : (number : ℕ) (values : List ℕ) → Decision

-- a refusal's number, and what it tells
abbrev pub refused : Refusal → Decision
refused r = refusal (number_of r) (values_of r)

-- what each case of a verdict states
abbrev pub decision_of : Verdict → Decision
decision_of (Ok x) = passed
decision_of (Err r) = refused r

-- its number; 0, which numbers no refusal, where it passed
abbrev pub verdict_number : Verdict → ℕ
verdict_number (Ok x) = 0
verdict_number (Err r) = number_of r

-- a test: whether there is the fault, and the refusal that is given then
abbrev pub Test : Type 0
Test = Bool × Refusal

-- the first fault is the answer; the order of the tests is each entry's own
unfoldable pub decide : List Test → Decision
decide [] = passed
decide (t ∷ ts) = cond t.0 (refused t.1) (decide ts)

-- an answer that gives something where it passed, and nothing but the refusal otherwise
pub data Reply (A : Type 0) : Type 0 where
  gives : A → Reply A
  refuses : (number : ℕ) (values : List ℕ) → Reply A

abbrev pub refusing : {A : Type 0} → Refusal → Reply A
refusing r = refuses (number_of r) (values_of r)

-- what each case of an entry's answer states
abbrev pub reply_of : {A : Type 0} → Result A Refusal → Reply A
reply_of (Ok x) = gives x
reply_of (Err r) = refusing r

unfoldable pub reply : {A : Type 0} → Decision → A → Reply A
reply passed x = gives x
reply (refusal number values) x = refuses number values
