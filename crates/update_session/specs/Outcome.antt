-- What the answer to a call states (S17, N105 to N107): the session, the refusal's number if there is one and what it
-- tells beside, and how many pairs (offset, word) stand in the store list. Assumes nothing.
use Rattle.std.specs.Prelude.{ℕ, Result, Ok, Err}
use Rattle.refusals.specs.declared.Refusal.{Refusal}
use Rattle.refusal_order.specs.Decide.{Decision, passed, refused, decision_of}
use Rattle.update_session.specs.declared.Session.{Session}
use Rattle.update_session.specs.declared.Answer.{Answer}

abbrev pub Outcome : Type 0
Outcome = Session × Decision × ℕ

-- refused: the session as it was, and no list
abbrev pub refused_with : Session → Refusal → Outcome
refused_with s r = (s, refused r, 0)

-- passed: the next session, and how many pairs are listed
abbrev pub passed_with : Session → ℕ → Outcome
passed_with s n = (s, passed, n)

-- the answer's own: what it states
abbrev pub outcome_of : Answer → Outcome
outcome_of a = (a.session, decision_of a.verdict, a.stores)

-- the same of a step that left the session s: how many pairs it listed, or why not
abbrev pub came_to : Session → Result ℕ Refusal → Outcome
came_to s (Ok n) = passed_with s n
came_to s (Err r) = refused_with s r
