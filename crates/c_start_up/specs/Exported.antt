-- What the exported start-up and repair answer, in numbers (X3). Neither is given a session, so that a refusal gives
-- none (X4). Assumes nothing.
use Rattle.std.specs.Prelude.{ℕ, List}
use Rattle.refusal_order.specs.Decide.{Reply}
use Rattle.update_session.specs.declared.Session.{Session}
use Rattle.c_session.specs.Numbers.{no_session, numbers_of}
use Rattle.c_answer.specs.declared.AnswerNumbers.{AnswerNumbers}
use Rattle.c_answer.specs.Answers.{passed_numbers, exported_reply}

-- start-up: the session, and no list (S2)
abbrev pub exported_start : Reply Session → AnswerNumbers
exported_start started = exported_reply (λ q. passed_numbers (numbers_of q) 0) no_session started

-- repair: no session, the count of pairs, and the store slice (R27, X4)
abbrev pub exported_repair : Reply ℕ × List ℕ → AnswerNumbers × List ℕ
exported_repair repaired = (exported_reply (passed_numbers no_session) no_session repaired.0, repaired.1)
