-- The statement on power cuts (crates/proof_power_cuts, P13) of the answers and store slices that the exported functions
-- give, which are equal to `exported`, `exported_repair` and `exported_start` by their clauses. given is the session in
-- numbers, a the bytes of the area, s the numbers of the slice before. Assumes nothing.
use Rattle.std.specs.Prelude.{ℕ, ◌≡◌, List, ◌∷◌}
use Rattle.std.proofs.Math.Option.{Option, none}
use Rattle.fields.specs.Number.{Bytes}
use Rattle.update_changes.specs.Changed.{Call, new_record}
use Rattle.update_session.specs.declared.Session.{Session}
use Rattle.update_session.specs.Calls.{held}
use Rattle.update_start_up.specs.StartUp.{start_up_of, started_from}
use Rattle.update_repair.specs.Repair.{repaired}
use Rattle.proof_history.specs.History.{Event, repairs, cut, pairs, step}
use Rattle.proof_history.specs.HistoryLaws.{world, event}
use Rattle.proof_format_cuts.specs.Area.{after_cut}
use Rattle.proof_power_cuts.specs.PowerCuts.{cut_call, Listed, Reads, Survives, Repairs, Quiet, Lasts}
use Rattle.c_session.specs.declared.SessionNumbers.{SessionNumbers}
use Rattle.c_session.specs.Numbers.{session_named}
use Rattle.c_answer.specs.declared.AnswerNumbers.{AnswerNumbers}
use Rattle.c_answer.specs.Answers.{exported}
use Rattle.c_start_up.specs.Exported.{exported_start, exported_repair}

-- the answer's refusal is 0
abbrev pub IsPassed : AnswerNumbers × List ℕ → Type 0
IsPassed x = x.0.refusal ≡ 0

-- Where the refusal is 0, as many pairs as the answer counts, read back from the slice:
--     call_survives    are the stores of a change that survives every cut of it and every list of events from there on
--     call_listed      and fit in the slice, whose other numbers are as they were
--     repair_mends     are the stores of a repair that, all done, makes both copies equal
--     repair_survives  are the stores that such a repair leaves done where it is cut, and any list from there on
--     repair_listed    and fit in the slice, whose other numbers are as they were
-- And where a record is read, by `Reads` after a cut or a list:
--     start_up_reads   start-up's answer to C is the one made of what that record gives
-- What each answer is, and that a refusal leaves all as it was, is for the functions' own clauses to say: nothing here
-- is about the session answered, or about when the refusal is 0.
pub record ExportedCalls : Type 0 where
  pub call_survives : (k : Call) (given : SessionNumbers) (a s : List ℕ) (n : ℕ) (es : List Event) → Bytes a
      → IsPassed (exported k given a s)
      → Survives a (held a) (new_record k (held a)) (pairs (exported k given a s).0.pairs (exported k given a s).1) n
      (cut_call k (session_named given) a s n) es
  pub call_listed : (k : Call) (given : SessionNumbers) (a s : List ℕ) → Bytes a → IsPassed (exported k given a s)
      → Listed s (exported k given a s).0.pairs (exported k given a s).1
  pub repair_mends : (a s : List ℕ) → Bytes a → IsPassed (exported_repair (repaired a s))
      → Repairs a (pairs (exported_repair (repaired a s)).0.pairs (exported_repair (repaired a s)).1)
  pub repair_survives : (a s : List ℕ) (n : ℕ) (q : Option Session) (es : List Event) → Bytes a
      → IsPassed (exported_repair (repaired a s)) → Quiet es
      → (step (world a q) (event repairs s (cut n))
      ≡ world (after_cut a (pairs (exported_repair (repaired a s)).0.pairs (exported_repair (repaired a s)).1) n) none)
      × Lasts (world a q) (event repairs s (cut n) ∷ es)
  pub repair_listed : (a s : List ℕ) → IsPassed (exported_repair (repaired a s))
      → Listed s (exported_repair (repaired a s)).0.pairs (exported_repair (repaired a s)).1
  pub start_up_reads : (a r : List ℕ) (booted : ℕ) → Reads a r
      → exported_start (start_up_of a booted) ≡ exported_start (started_from r booted)
