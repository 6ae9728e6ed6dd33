-- What each event does, by what its entry answered, and how a history goes on (`history_laws`,
-- proofs/HistoryLaws.antt). w is a world, a the bytes of an area, s the numbers of a store slice, q a session, ss a
-- list of stores. Assumes nothing.
use Rattle.std.specs.Prelude.{ℕ, suc, ◌≡◌, List, [], ◌∷◌, ◌++◌, length}
use Rattle.std.proofs.Math.Option.{Option, none, some}
use Rattle.record_stores.specs.Stores.{Store, with_list}
use Rattle.refusal_order.specs.Decide.{passed, refusal, gives, refuses}
use Rattle.update_changes.specs.Changed.{Call}
use Rattle.update_session.specs.declared.Session.{Session}
use Rattle.update_session.specs.Outcome.{passed_with}
use Rattle.update_session.specs.Calls.{answered}
use Rattle.update_start_up.specs.StartUp.{start_up_of}
use Rattle.update_repair.specs.Repair.{repaired}
use Rattle.proof_format_cuts.specs.Area.{after_store, after_stores, after_cut}
use Rattle.proof_history.specs.History.{World, Act, starts_up, repairs, calls, Fate, whole, cut, Event, pairs, list_of}
use Rattle.proof_history.specs.History.{area_after, session_after, step, run}

-- an area, and a session or none
abbrev pub world : List ℕ → Option Session → World
world a q = record { area = a; session = q }

abbrev pub event : Act → (s : List ℕ) → Fate → Event
event act s fate = record { act = act; slice = s; fate = fate }

--     read_back, call_lists     a list laid at a slice's front is read back whole
--     cut_next .. no_list       how far the stores went: a cut after n, none, all, and where there is none to be done
--     started .. start_up_area  a start-up leaves the area as it was, and gives the session where it is accepted and
--                               power holds
--     repair_refused ..         a refused repair leaves the area as it was, an accepted one does its stores; the
--                               session stays
--     call_refused ..           a refused call leaves all as it was; so does one that no session is at hand for
--     cut_loses                 a loss of power loses the session, whatever is cut and however far it went
--     goes_on, one              event after event
pub record HistoryLaws : Type 0 where
  pub read_back : (s : List ℕ) (ss : List Store) → pairs (length ss) (with_list s ss) ≡ ss
  pub call_lists : (q : Session) (s : List ℕ) (ss : List Store) → list_of (passed_with q (length ss), with_list s ss) ≡ ss
  pub cut_next : (a : List ℕ) (s : Store) (ss : List Store) (n : ℕ)
      → area_after (cut (suc n)) a (s ∷ ss) ≡ area_after (cut n) (after_store a s) ss
  pub cut_area : (a : List ℕ) (ss : List Store) (n : ℕ) → area_after (cut n) a ss ≡ after_cut a ss n
  pub no_store : (a : List ℕ) (ss : List Store) → area_after (cut 0) a ss ≡ a
  pub whole_area : (a : List ℕ) (ss : List Store) → area_after whole a ss ≡ area_after (cut (length ss)) a ss
  pub all_area : (a : List ℕ) (ss : List Store) → area_after whole a ss ≡ after_stores a ss
  pub no_list : (fate : Fate) (a : List ℕ) → area_after fate a [] ≡ a
  pub started : (w : World) (booted : ℕ) (s : List ℕ) (q : Session) → start_up_of w.area booted ≡ gives q
      → step w (event (starts_up booted) s whole) ≡ world w.area (some q)
  pub not_started : (w : World) (booted : ℕ) (s : List ℕ) (number : ℕ) (values : List ℕ) → start_up_of w.area booted ≡ refuses number values
      → step w (event (starts_up booted) s whole) ≡ w
  pub start_up_area : (w : World) (booted : ℕ) (s : List ℕ) (fate : Fate) → (step w (event (starts_up booted) s fate)).area ≡ w.area
  pub repair_refused : (w : World) (s : List ℕ) (fate : Fate) (number : ℕ) (values : List ℕ)
      → (repaired w.area s).0 ≡ refuses number values
      → step w (event repairs s fate) ≡ world w.area (session_after fate w.session)
  pub repair_done : (w : World) (s : List ℕ) (fate : Fate) (count : ℕ) → (repaired w.area s).0 ≡ gives count
      → step w (event repairs s fate)
      ≡ world (area_after fate w.area (pairs count (repaired w.area s).1)) (session_after fate w.session)
  pub call_refused : (k : Call) (q : Session) (a s : List ℕ) (fate : Fate) (number : ℕ) (values : List ℕ)
      → (answered k q a s).0.1 ≡ refusal number values
      → step (world a (some q)) (event (calls k) s fate) ≡ world a (session_after fate (some q))
  pub call_done : (k : Call) (q : Session) (a s : List ℕ) (fate : Fate) → (answered k q a s).0.1 ≡ passed
      → step (world a (some q)) (event (calls k) s fate)
      ≡ world (area_after fate a (list_of (answered k q a s))) (session_after fate (some (answered k q a s).0.0))
  pub no_session_stays : (k : Call) (a s : List ℕ) (fate : Fate) → step (world a none) (event (calls k) s fate) ≡ world a none
  pub session_kept : (q : Option Session) → session_after whole q ≡ q
  pub cut_loses : (w : World) (act : Act) (s : List ℕ) (n : ℕ) → (step w (event act s (cut n))).session ≡ none
  pub goes_on : (w : World) (es fs : List Event) → run w (es ++ fs) ≡ run (run w es) fs
  pub one : (w : World) (e : Event) → run w (e ∷ []) ≡ step w e
