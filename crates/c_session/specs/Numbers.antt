-- A session as C has it, in three numbers (X1; include/meanderpeg.h), and the session that such numbers name. Assumes
-- nothing.
use Rattle.std.specs.Prelude.{ℕ, ◌+◌, cond, eqb}
use Rattle.update_session.specs.declared.Session.{Session}
use Rattle.update_session.specs.declared.Session.TheVariants.{Regular, Staging, Trial, Fallback, Restart}
use Rattle.update_session.specs.Sessions.{regular, staging, trial, fallback, kind_of, bank_of, set_of}
use Rattle.c_session.specs.declared.SessionNumbers.{SessionNumbers}

-- C's number of a kind: one more than S1's order has it, so that a zeroed struct names no session
abbrev pub kind_in_c : (kind : ℕ) → ℕ
kind_in_c kind = 1 + kind

-- the zeroed struct: given where there is no session to give (X4)
abbrev pub no_session : SessionNumbers
no_session = record { kind = 0; bank = 0; set = 0 }

-- a session in numbers: bank and set are Staging's, else 0 (X1)
abbrev pub numbers_of : Session → SessionNumbers
numbers_of q = record { kind = kind_in_c (kind_of q); bank = bank_of q; set = set_of q }

-- The session that numbers name. Kind 0 and kinds above 5 name none: they are taken as Restart, which no call is named
-- for, so that they meet 25 in its turn and never 24 (X2, N110)
unfoldable pub session_named : SessionNumbers → Session
session_named n =
    cond (eqb n.kind (kind_in_c regular)) Regular
    (cond (eqb n.kind (kind_in_c staging)) (Staging n.bank n.set)
    (cond (eqb n.kind (kind_in_c trial)) Trial (cond (eqb n.kind (kind_in_c fallback)) Fallback Restart)))
