-- The exported calls under power cuts (specs/ExportedCalls.antt). Assumes nothing.
use mathlib.Core.Path.{◌≡◌, refl, sym, ap, ◌∙◌}
use mathlib.Core.Bool.{true, false}
use mathlib.Core.List.{List, [], ◌∷◌}
use Prim.Native.Nat.{ℕ, ◌≤◌}
use native.Mathlib.Omega.{arith}
use lib.ListN.{length}
use Rattle.refusals.proofs.Number.{number_positive}
use Rattle.refusal_order.specs.Decide.{Decision, passed, refusal, Test, decide, Reply, gives, refuses, reply}
use Rattle.update_admission.specs.Rows.{repair_tests}
use Rattle.update_changes.specs.Changed.{Call}
use Rattle.update_session.specs.declared.Session.{Session}
use Rattle.update_session.specs.Calls.{Result, held, tests, transition, changed_to, following, answered}
use Rattle.update_repair.specs.Repair.{repaired_by, repaired}
use Rattle.proof_call_results.specs.CallResults.{Passed}
use Rattle.proof_history.specs.History.{list_of, repairs, cut, area_after, session_after}
use Rattle.proof_history.specs.HistoryLaws.{world, event}
use Rattle.proof_history.proofs.HistoryLaws.{history_laws}
use Rattle.proof_power_cuts.proofs.PowerCuts.{power_cuts}
use Rattle.c_session.specs.declared.SessionNumbers.{SessionNumbers}
use Rattle.c_session.specs.Numbers.{session_named}
use Rattle.c_answer.specs.Answers.{exported_result, exported}
use Rattle.c_start_up.specs.Exported.{exported_start, exported_repair}
use Rattle.proof_exported_calls.specs.ExportedCalls.{IsPassed, ExportedCalls}

-- no list of tests decides for a refusal of the number 0
abbrev Positive : Decision → Type 0
Positive passed = Unit {0}
Positive (refusal number values) = 1 ≤ number

decide_positive : (ts : List Test) → Positive (decide ts)
unfolding decide
decide_positive [] = tt
decide_positive ((true, why) ∷ ts) = number_positive why
decide_positive ((false, why) ∷ ts) = decide_positive ts

-- a call: 0 is told of an outcome that passed alone, with its count
call_passed : (k : Call) (given : SessionNumbers) (a s : List ℕ) → IsPassed (exported k given a s)
    → Passed (answered k (session_named given) a s) × ((exported k given a s).0.pairs ≡ (answered k (session_named given) a s).0.2)
unfolding answered following changed_to reply
call_passed k given a s e =
    go (decide (tests k (session_named given) a (length s))) (decide_positive (tests k (session_named given) a (length s))) e
  where
    q : Session
    q = session_named given

    x : Decision → Result
    x d = following d q s (changed_to (transition k q (held a)) a s)

    go : (d : Decision) → Positive d → IsPassed (exported_result given (x d))
        → Passed (x d) × ((exported_result given (x d)).0.pairs ≡ (x d).0.2)
    go passed p h = (refl, refl)
    go (refusal number values) p h = absurd (omega (arith, p, h))

-- a repair: the same
repair_passed : (a s : List ℕ) → IsPassed (exported_repair (repaired a s))
    → (repaired a s).0 ≡ gives (exported_repair (repaired a s)).0.pairs
unfolding repaired repaired_by
repair_passed a s e = go (decide (repair_tests a (length s))) (decide_positive (repair_tests a (length s))) e
  where
    go : (d : Decision) → Positive d → IsPassed (exported_repair (repaired_by d a s))
        → (repaired_by d a s).0 ≡ gives (exported_repair (repaired_by d a s)).0.pairs
    go passed p h = refl
    go (refusal number values) p h = absurd (omega (arith, p, h))

pub exported_calls : ExportedCalls
unfolding list_of area_after session_after
exported_calls =
    record {
      call_survives = λ k given a s n es b e.
          let p = call_passed k given a s e in rw p.1 (power_cuts.change k (session_named given) a s n es b p.0);
      call_listed = λ k given a s b e.
          let p = call_passed k given a s e in rw p.1 (power_cuts.change_listed k (session_named given) a s b p.0);
      repair_mends = λ a s b e. power_cuts.repair a s (exported_repair (repaired a s)).0.pairs b (repair_passed a s e);
      repair_survives = λ a s n q es b e quiet.
          let h = repair_passed a s e in
          let m = power_cuts.repair a s (exported_repair (repaired a s)).0.pairs b h in (
            history_laws.repair_done (world a q) s (cut n) (exported_repair (repaired a s)).0.pairs h,
            power_cuts.anywhere (world a q) (event repairs s (cut n) ∷ es) m.is_area b m.has_sound (tt, quiet),
          );
      repair_listed = λ a s e. power_cuts.repair_listed a s (exported_repair (repaired a s)).0.pairs (repair_passed a s e);
      start_up_reads = λ a r booted h. ap exported_start (h.answers booted);
    }
