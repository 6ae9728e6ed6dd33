-- From an entry's own clause to what the statement on power cuts says of its answer. Assumes nothing.
use mathlib.Core.Path.{◌≡◌, sym, ap, subst, ◌∙◌}
use mathlib.Core.List.{List, ◌∷◌}
use Prim.Native.Nat.{ℕ}
use Rattle.fields.specs.Number.{Bytes}
use Rattle.refusal_order.specs.Decide.{passed, Reply, gives}
use Rattle.update_changes.specs.Changed.{Call, new_record}
use Rattle.update_session.specs.declared.Session.{Session}
use Rattle.update_session.specs.Outcome.{Outcome}
use Rattle.update_session.specs.Calls.{Result, held, answered}
use Rattle.update_repair.specs.Repair.{repaired}
use Rattle.proof_call_results.specs.CallResults.{Passed}
use Rattle.proof_history.specs.History.{repairs, cut, pairs, list_of, area_after, session_after}
use Rattle.proof_history.specs.HistoryLaws.{world, event}
use Rattle.proof_history.proofs.HistoryLaws.{history_laws}
use Rattle.proof_power_cuts.specs.PowerCuts.{cut_call, Listed, Survives}
use Rattle.proof_power_cuts.proofs.PowerCuts.{power_cuts}
use Rattle.proof_surviving_calls.specs.Tied.{Tied, TiedRepair}

pub tied : (k : Call) (q : Session) (a s : List ℕ) (x : Outcome) (out : List ℕ) → Bytes a → (x, out) ≡ answered k q a s → Tied k q a s x out
unfolding list_of
tied k q a s x out b e =
    let accepts : x.1 ≡ passed → Passed (answered k q a s) = λ h. sym (ap (λ (y : Result). y.0.1) e) ∙ h in
    record {
      survives = λ h n es.
          subst (λ (y : Result). Survives a (held a) (new_record k (held a)) (pairs y.0.2 y.1) n (cut_call k q a s n) es) (sym e)
          (power_cuts.change k q a s n es b (accepts h));
      listed = λ h. subst (λ (y : Result). Listed s y.0.2 y.1) (sym e) (power_cuts.change_listed k q a s b (accepts h));
    }

pub tied_repair : (a s : List ℕ) (x : Reply ℕ) (out : List ℕ) → Bytes a → (x, out) ≡ repaired a s → TiedRepair a s x out
unfolding area_after session_after
tied_repair a s x out b e =
    let lists : (count : ℕ) → x ≡ gives count → (repaired a s).0 ≡ gives count = λ count h. sym (ap (λ (y : Reply ℕ × List ℕ). y.0) e) ∙ h in
    let at_exit : (repaired a s).1 ≡ out = sym (ap (λ (y : Reply ℕ × List ℕ). y.1) e) in
    record {
      survives = λ count n q es h quiet.
          let m = power_cuts.repair a s count b (lists count h) in (
            rw at_exit at (history_laws.repair_done (world a q) s (cut n) count (lists count h)),
            power_cuts.anywhere (world a q) (event repairs s (cut n) ∷ es) m.is_area b m.has_sound (tt, quiet),
          );
      repairs = λ count h. rw at_exit at (power_cuts.repair a s count b (lists count h));
      listed = λ count h. rw at_exit at (power_cuts.repair_listed a s count (lists count h));
    }
