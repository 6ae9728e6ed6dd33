-- A history of start-ups, repairs and calls: what each leaves of the area and of the session, done whole or cut by a
-- loss of power (P2, P7, P8, P14). Each event asks its entry's own definition with what the event before it left, and
-- nobody else writes the area meanwhile. An act more is a line more of `Act` and of `effect_of`. w is a world, e an
-- event, s the numbers of the store slice lent, ss a list of stores. Assumes nothing.
use Rattle.std.specs.Prelude.{ℕ, zero, suc, List, [], ◌∷◌, drop, get_or}
use Rattle.std.proofs.Math.Option.{Option, none, some}
use Rattle.record_stores.specs.Stores.{Store}
use Rattle.refusal_order.specs.Decide.{Decision, passed, refusal, Reply, gives, refuses}
use Rattle.update_changes.specs.Changed.{Call}
use Rattle.update_session.specs.declared.Session.{Session}
use Rattle.update_session.specs.Calls.{Result, answered}
use Rattle.update_start_up.specs.StartUp.{start_up_of}
use Rattle.update_repair.specs.Repair.{repaired}
use Rattle.proof_format_cuts.specs.Area.{after_stores, after_cut}

-- ---- what there is: the area's bytes, and the session last answered, or none
pub record World : Type 0 where
  pub area : List ℕ
  pub session : Option Session

-- ---- what happens
pub data Act : Type 0 where
  starts_up : (booted : ℕ) → Act
  repairs : Act
  calls : (k : Call) → Act

-- Power holds until the caller has the answer and all stores listed are done; or it is lost after n of them. An n past
-- the list's end is all of them, and the session is lost even so
pub data Fate : Type 0 where
  whole : Fate
  cut : (n : ℕ) → Fate

-- an act, the store slice lent (start-up looks at none) and the fate
pub record Event : Type 0 where
  pub act : Act
  pub slice : List ℕ
  pub fate : Fate

-- ---- the list that an answer counts
-- the first n pairs of a slice of numbers: offset, word, offset, word
unfoldable pub pairs : ℕ → List ℕ → List Store
pairs zero s = []
pairs (suc n) s = (get_or s 0 0, get_or s 1 0) ∷ pairs n (drop 2 s)

-- the stores of a call: as many pairs as the answer counts, from the slice at exit (R23)
unfoldable pub list_of : Result → List Store
list_of x = pairs x.0.2 x.1

-- ---- what the entry answers, as far as a history goes: nothing is to be done; or the session from then on, and the
-- stores to be done
pub data Effect : Type 0 where
  nothing : Effect
  does : (next : Option Session) (ss : List Store) → Effect

unfoldable pub start_up_effect : Reply Session → Effect
start_up_effect (gives q) = does (some q) []
start_up_effect (refuses number values) = nothing

-- a repair leaves the session that there was
unfoldable pub repair_effect : Option Session → Reply ℕ → (out : List ℕ) → Effect
repair_effect q (gives n) out = does q (pairs n out)
repair_effect q (refuses number values) out = nothing

unfoldable pub call_effect : Decision → Result → Effect
call_effect passed x = does (some x.0.0) (list_of x)
call_effect (refusal number values) x = nothing

-- a call takes the session last answered: without one it cannot be made
unfoldable pub call_effect_of : Call → Option Session → (a s : List ℕ) → Effect
call_effect_of k none a s = nothing
call_effect_of k (some q) a s = call_effect (answered k q a s).0.1 (answered k q a s)

unfoldable pub effect_of : Act → World → (s : List ℕ) → Effect
effect_of (starts_up booted) w s = start_up_effect (start_up_of w.area booted)
effect_of repairs w s = repair_effect w.session (repaired w.area s).0 (repaired w.area s).1
effect_of (calls k) w s = call_effect_of k w.session w.area s

-- ---- one event
-- all stores done, or the first n (P2)
unfoldable pub area_after : Fate → (a : List ℕ) → List Store → List ℕ
area_after whole a ss = after_stores a ss
area_after (cut n) a ss = after_cut a ss n

-- what is in no area is lost with the power (P14)
unfoldable pub session_after : Fate → Option Session → Option Session
session_after whole q = q
session_after (cut n) q = none

-- a refusal alters no byte, and leaves the session that there was
unfoldable pub step_by : Effect → Fate → World → World
step_by nothing fate w = record { area = w.area; session = session_after fate w.session }
step_by (does next ss) fate w = record { area = area_after fate w.area ss; session = session_after fate next }

unfoldable pub step : World → Event → World
step w e = step_by (effect_of e.act w e.slice) e.fate w

-- ---- one after another: each is given what the one before it left
unfoldable pub run : World → List Event → World
run w [] = w
run w (e ∷ es) = run (step w e) es
