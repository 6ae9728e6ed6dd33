-- The five sessions by their kind, and what Staging carries (S1); the sessions that each call is for. Assumes nothing.
use Rattle.std.specs.Prelude.{ℕ, Bool, false, ◌||◌, List, [], ◌∷◌, eqb}
use Rattle.update_changes.specs.Changed.{Call, begin, commit, end, cancel, accept, select_previous}
use Rattle.update_session.specs.declared.Session.{Session}
use Rattle.update_session.specs.declared.Session.TheVariants.{Regular, Staging, Trial, Fallback, Restart}

-- the five states, numbered in the order of S1
abbrev pub regular : ℕ
regular = 0

abbrev pub staging : ℕ
staging = 1

abbrev pub trial : ℕ
trial = 2

abbrev pub fallback : ℕ
fallback = 3

abbrev pub restart : ℕ
restart = 4

abbrev pub kind_of : Session → ℕ
kind_of Regular = regular
kind_of (Staging bank set) = staging
kind_of Trial = trial
kind_of Fallback = fallback
kind_of Restart = restart

-- the bank and the set of Staging; of any other session both are 0, and no test that reads them decides
abbrev pub bank_of : Session → ℕ
bank_of (Staging bank set) = bank
bank_of Regular = 0
bank_of Trial = 0
bank_of Fallback = 0
bank_of Restart = 0

abbrev pub set_of : Session → ℕ
set_of (Staging bank set) = set
set_of Regular = 0
set_of Trial = 0
set_of Fallback = 0
set_of Restart = 0

-- whether a kind is one of a list
abbrev pub among : ℕ → List ℕ → Bool
among k [] = false
among k (x ∷ xs) = eqb k x || among k xs

-- the sessions that a call is for (S5, S7, S9, S11, S12, S15)
abbrev pub named_for : Call → List ℕ
named_for begin = regular ∷ staging ∷ []
named_for (commit g request) = staging ∷ []
named_for end = staging ∷ []
named_for cancel = staging ∷ []
named_for (accept g) = trial ∷ []
named_for select_previous = trial ∷ fallback ∷ []
