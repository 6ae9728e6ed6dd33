-- What the statement on power cuts (crates/proof_power_cuts, P13) says of an entry's answer x, and of the numbers out
-- that stand in the slice at exit. k is a call, q the session given, a the bytes of the area, s the numbers of the
-- slice before, n how many stores are done before the cut, es a list of events from there on, r the bytes of a record.
-- Assumes nothing.
use Rattle.std.specs.Prelude.{ℕ, ◌≡◌, List, ◌∷◌}
use Rattle.std.proofs.Math.Option.{Option, none}
use Rattle.refusal_order.specs.Decide.{passed, Reply, gives}
use Rattle.update_changes.specs.Changed.{Call, new_record}
use Rattle.update_session.specs.declared.Session.{Session}
use Rattle.update_session.specs.Outcome.{Outcome}
use Rattle.update_session.specs.Calls.{held}
use Rattle.update_start_up.specs.StartUp.{started_from}
use Rattle.proof_history.specs.History.{Event, repairs, cut, pairs, step}
use Rattle.proof_history.specs.HistoryLaws.{world, event}
use Rattle.proof_format_cuts.specs.Area.{after_cut}
use Rattle.proof_power_cuts.specs.PowerCuts.{Quiet, Lasts, cut_call, Listed, Reads, Survives, Repairs}

-- That the answer is the right one, and that a refusal leaves all as it was, is for the entries' own clauses to say.
-- of a call that is accepted: as many pairs as the answer counts, read back from the slice, are the stores of a change
-- that survives every cut of it and every list of start-ups and repairs from there on; and they are the whole list
pub record Tied (k : Call) (q : Session) (a s : List ℕ) (x : Outcome) (out : List ℕ) : Type 0 where
  pub survives : x.1 ≡ passed → (n : ℕ) (es : List Event)
      → Survives a (held a) (new_record k (held a)) (pairs x.2 out) n (cut_call k q a s n) es
  pub listed : x.1 ≡ passed → Listed s x.2 out

-- of an accepted repair: with all its stores done, and cut after any n of them, with any list from there on
pub record TiedRepair (a s : List ℕ) (x : Reply ℕ) (out : List ℕ) : Type 0 where
  pub survives : (count n : ℕ) (q : Option Session) (es : List Event) → x ≡ gives count → Quiet es
      → (step (world a q) (event repairs s (cut n)) ≡ world (after_cut a (pairs count out) n) none)
      × Lasts (world a q) (event repairs s (cut n) ∷ es)
  pub repairs : (count : ℕ) → x ≡ gives count → Repairs a (pairs count out)
  pub listed : (count : ℕ) → x ≡ gives count → Listed s count out

-- of start-up: where a record is read, by `Reads` after a cut or a list, this is the answer that the record gives
abbrev pub TiedStartUp : (a : List ℕ) (booted : ℕ) (x : Reply Session) → Type 0
TiedStartUp a booted x = (r : List ℕ) → Reads a r → x ≡ started_from r booted
