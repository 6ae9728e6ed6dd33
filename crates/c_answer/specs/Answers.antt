-- What the exported functions answer, in numbers (X3): the struct of include/meanderpeg.h, and the store slice at exit.
-- a is the bytes of the area, s the numbers of the store slice. Assumes nothing.
use Rattle.std.specs.Prelude.{ℕ, List, [], ◌∷◌, ◌++◌, take}
use Rattle.refusal_order.specs.Decide.{Reply, gives, refuses, reply}
use Rattle.update_changes.specs.Changed.{Call}
use Rattle.update_session.specs.Outcome.{Outcome}
use Rattle.update_session.specs.Calls.{Result, answered}
use Rattle.c_session.specs.declared.SessionNumbers.{SessionNumbers}
use Rattle.c_session.specs.Numbers.{numbers_of, session_named}
use Rattle.c_answer.specs.declared.AnswerNumbers.{AnswerNumbers}

-- what is told beside the number (N107, X3), in order in two slots, 0 where there is less: the same slots for every
-- function, so that a refusal which tells two numbers finds its place
abbrev pub slots : (values : List ℕ) → List ℕ
slots values = take 2 (values ++ (0 ∷ 0 ∷ []))

-- passed: nothing told, the next session and the count of pairs (S17, X3)
abbrev pub passed_numbers : (next : SessionNumbers) (pairs : ℕ) → AnswerNumbers
passed_numbers next pairs = record { refusal = 0; told = slots []; session = next; pairs = pairs }

-- refused: the number, what it tells, the session as it was given, also where its numbers name none, and no list (X2
-- to X4)
abbrev pub refused_numbers : (given : SessionNumbers) (number : ℕ) (values : List ℕ) → AnswerNumbers
refused_numbers given number values = record { refusal = number; told = slots values; session = given; pairs = 0 }

-- which of the two
abbrev pub exported_reply : {A : Type 0} → (ifPassed : A → AnswerNumbers) → (given : SessionNumbers) → Reply A → AnswerNumbers
exported_reply ifPassed given (gives x) = ifPassed x
exported_reply ifPassed given (refuses number values) = refused_numbers given number values

-- a call's outcome
abbrev pub exported_outcome : (given : SessionNumbers) → Outcome → AnswerNumbers
exported_outcome given o = exported_reply (passed_numbers (numbers_of o.0)) given (reply o.1 o.2)

abbrev pub exported_result : (given : SessionNumbers) → Result → AnswerNumbers × List ℕ
exported_result given result = (exported_outcome given result.0, result.1)

-- the call k of the session that the numbers name (X2)
abbrev pub exported : Call → (given : SessionNumbers) → (a s : List ℕ) → AnswerNumbers × List ℕ
exported k given a s = exported_result given (answered k (session_named given) a s)
