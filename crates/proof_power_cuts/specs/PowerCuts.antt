-- What power cuts leave, as one statement over the change, its cut and the whole list (P1 to P13). It speaks of what
-- the clauses of the six calls, of repair and of start-up say that these answer, of the numbers that stand in the store
-- slice at exit, and of one history (crates/proof_history). w is a world, a the bytes of an area, s the numbers of a
-- store slice, q a session, r the bytes of a record, ss a list of stores, n how many of them are done before the cut,
-- es a list of start-ups and repairs. Assumes nothing.
use Rattle.std.specs.Prelude.{ℕ, ◌*◌, ◌/◌, ◌≤◌, ◌≡◌, ◌≢◌, ◌⊎◌, true, None, List, [], ◌∷◌, ◌++◌, length}
use Rattle.std.proofs.Math.Option.{none, some}
use Rattle.fields.specs.Number.{Bytes}
use Rattle.record_layout.specs.Layout.{area_size, copy0, copy1}
use Rattle.record_layout.specs.Rules.{sound}
use Rattle.record_copies.specs.Copies.{source_of, record_read, sound_and_equal}
use Rattle.record_stores.specs.Stores.{Store, store_numbers, with_list}
use Rattle.refusal_order.specs.Decide.{Reply, gives, refuses}
use Rattle.update_changes.specs.Changed.{Call, new_record}
use Rattle.update_session.specs.declared.Session.{Session}
use Rattle.update_session.specs.Calls.{held, answered}
use Rattle.update_start_up.specs.StartUp.{start_up_of, started_from}
use Rattle.update_repair.specs.Repair.{repaired}
use Rattle.proof_format_cuts.specs.Area.{after_stores, after_cut, Each}
use Rattle.proof_format_cuts.specs.Format.{over}
use Rattle.proof_record_cuts.specs.Cuts.{BothHold}
use Rattle.proof_record_cuts.specs.Offsets.{StoreWithin, InEither, InWord, other_at}
use Rattle.proof_kept_sound.specs.Fields.{CallsMake}
use Rattle.proof_call_results.specs.CallResults.{Passed}
use Rattle.proof_history.specs.HistoryLaws.{event}
use Rattle.proof_history.specs.History.{World, Act, starts_up, repairs, calls, Fate, whole, cut, Event, pairs, list_of, step, run}

-- ---- a change (P1)
-- that call of the session q, on the area a, with the slice s lent, cut after n of its stores: the world that it leaves
abbrev pub cut_call : (k : Call) (q : Session) (a s : List ℕ) (n : ℕ) → World
cut_call k q a s n = step (record { area = a; session = some q }) (record { act = calls k; slice = s; fate = cut n })

-- the list is whole: the slice s that was lent holds all the pairs that the answer counts, and numbers past them stay
-- (R23). out is the slice at exit (`counted` is so by `pairs` already; what excludes an invented count is `inside`,
-- `rest` and `area` of `Survives` below)
pub record Listed (s : List ℕ) (count : ℕ) (out : List ℕ) : Type 0 where
  pub counted : length (pairs count out) ≡ count
  pub inside : 2 * length (pairs count out) ≤ length s
  pub rest : out ≡ with_list s (pairs count out)

-- ---- what start-up reads: the record read, by which it answers for any booted bank (P3)
pub record Reads (a r : List ℕ) : Type 0 where
  pub one_sound : source_of a ≢ None
  pub is : record_read a ≡ r
  pub answers : (booted : ℕ) → start_up_of a booted ≡ started_from r booted

-- ---- a list of start-ups and repairs, refused ones too, each whole or cut (P7); what they leave is `run` of
-- crates/proof_history (P8)
abbrev pub NoCall : Act → Type 0
NoCall (starts_up booted) = Unit {0}
NoCall repairs = Unit {0}
NoCall (calls k) = ⊥

abbrev pub Quiet : List Event → Type 0
Quiet [] = Unit {0}
Quiet (e ∷ es) = NoCall e.act × Quiet es

-- an accepted repair has finished, by its answer and its fate (P9)
abbrev pub AllDone : Reply ℕ → Fate → Type 0
AllDone (gives count) whole = Unit {0}
AllDone (gives count) (cut n) = count ≤ n
AllDone (refuses number values) fate = ⊥

abbrev pub FinishesAs : Act → Reply ℕ → Fate → Type 0
FinishesAs (starts_up booted) x fate = ⊥
FinishesAs repairs x fate = AllDone x fate
FinishesAs (calls k) x fate = ⊥

abbrev pub Finishes : World → Event → Type 0
Finishes w e = FinishesAs e.act (repaired w.area e.slice).0 e.fate

-- a repair in the list has finished
abbrev pub Finished : World → List Event → Type 0
Finished w [] = ⊥
Finished w (e ∷ es) = Finishes w e ⊎ Finished (step w e) es

-- such lists there are, of any start-ups and repairs, and a repair in them finishes as soon as all its stores are done
-- (`quiet_lists`, proofs/Lists.antt)
pub record QuietLists : Type 0 where
  pub empty : Quiet []
  pub start_up : (booted : ℕ) (s : List ℕ) (fate : Fate) (es : List Event) → Quiet es → Quiet (event (starts_up booted) s fate ∷ es)
  pub repair : (s : List ℕ) (fate : Fate) (es : List Event) → Quiet es → Quiet (event repairs s fate ∷ es)
  pub finished : (w : World) (s : List ℕ) (count n : ℕ) (es : List Event) → (repaired w.area s).0 ≡ gives count → count ≤ n
      → Finished w (event repairs s (cut n) ∷ es)
  pub finished_whole : (w : World) (s : List ℕ) (count : ℕ) (es : List Event) → (repaired w.area s).0 ≡ gives count
      → Finished w (event repairs s whole ∷ es)
  pub later : (w : World) (e : Event) (es : List Event) → Finished (step w e) es → Finished w (e ∷ es)

-- ---- what a list leaves of the world w
--     long, bytes   an area still, so that more may follow
--     reads         the same record is read as before it (P10)
--     answers       and start-up answers the same, session or refusal, for any booted bank
--     both_hold     once a repair in it has finished, both copies are sound and equal (P11): the list is any list, so
--                   this holds after each event of a longer one
pub record Lasts (w : World) (es : List Event) : Type 0 where
  pub long : length (run w es).area ≡ area_size
  pub bytes : Bytes (run w es).area
  pub reads : Reads (run w es).area (record_read w.area)
  pub answers : (booted : ℕ) → start_up_of (run w es).area booted ≡ start_up_of w.area booted
  pub both_hold : Finished w es → BothHold (run w es).area (record_read w.area)

-- ---- the rules on a list
-- where its stores lie (R25)
abbrev pub InRange : (old new : List ℕ) → Store → Type 0
InRange old new store = InEither (length old) store ⊎ InEither (length new) store

-- how many there are at most, however long the slice is (R24)
abbrev pub pair_limit : ℕ
pair_limit = store_numbers / 2

-- each store of the list lies where P says and is one word, and there are no more of them than that
pub record Ruled (P : Store → Type 0) (ss : List Store) : Type 0 where
  pub placed : Each P ss
  pub words : Each InWord ss
  pub few : length ss ≤ pair_limit

-- ---- a change from old to new with the stores ss, cut after n of them: w is the world that it leaves, and es any list
-- from there on
--     left                    its area is the one that the call was given with the first n stores done (P2); the
--                             session is lost (P14)
--     long, holds             the call was given an area whose two copies are sound and hold the old record
--     new_sound, new_bytes    the new record is one that can be read: every accepted call keeps the record sound (S19)
--     either                  exactly the old record or exactly the new is read (P4)
--     first, last             the old after no store, the new after all (P5)
--     after_all, area         both copies hold the new record, every other byte as before (R26)
--     later                   once the new is read, every later cut reads it too (P6)
--     lasts                   any list from what that cut left (P10, P11)
--     rules                   those on the list (R22, R24, R25)
pub record Survives (a old new : List ℕ) (ss : List Store) (n : ℕ) (w : World) (es : List Event) : Type 0 where
  pub left : w ≡ record { area = after_cut a ss n; session = none }
  pub long : length a ≡ area_size
  pub holds : BothHold a old
  pub new_sound : sound new ≡ true
  pub new_bytes : Bytes new
  pub either : Reads (after_cut a ss n) old ⊎ Reads (after_cut a ss n) new
  pub first : n ≡ 0 → Reads (after_cut a ss n) old
  pub last : length ss ≤ n → Reads (after_cut a ss n) new
  pub after_all : length ss ≤ n → BothHold (after_cut a ss n) new
  pub area : length ss ≤ n → after_cut a ss n ≡ over new (copy0 a) ++ over new (copy1 a)
  pub later : (m : ℕ) → n ≤ m → Reads (after_cut a ss n) new → Reads (after_cut a ss m) new
  pub lasts : Quiet es → Lasts w es
  pub rules : Ruled (InRange old new) ss

-- ---- a repair of a with the stores ss, all of them done (R27)
pub record Repairs (a : List ℕ) (ss : List Store) : Type 0 where
  pub is_area : length a ≡ area_size
  pub has_sound : source_of a ≢ None
  pub none : sound_and_equal a ≡ true → ss ≡ []
  pub after_all : BothHold (after_stores a ss) (record_read a)
  pub area : after_stores a ss ≡ over (record_read a) (copy0 a) ++ over (record_read a) (copy1 a)
  pub rules : Ruled (StoreWithin (other_at (source_of a)) (length (record_read a))) ss

-- ---- the whole statement. That a is bytes is all that a change asks of it: that it is an area with two sound and
-- equal copies is what the calls are refused for otherwise. No clause has a premise about the checksum (P12). That
-- calls and repairs are accepted at all is for their own clauses to say; crate proof_sample_update has one of each
--     makes            the new record has the old one's fields but for what the call's rule alters, and the old one's
--                      bytes elsewhere but for the CRC's, which its soundness fixes (S17)
--     change           one change, its cut, and the whole list
--     change_listed    the stores of a change are those that its answer counts, in the slice that was lent
--     anywhere         any other area with a sound copy, with any session at hand or none
--     repair           an accepted repair with all its stores done
--     repair_listed    its stores are those that its answer counts, in the slice that was lent
pub record PowerCuts : Type 0 where
  pub makes : CallsMake
  pub change : (k : Call) (q : Session) (a s : List ℕ) (n : ℕ) (es : List Event) → Bytes a → Passed (answered k q a s)
      → Survives a (held a) (new_record k (held a)) (list_of (answered k q a s)) n (cut_call k q a s n) es
  pub change_listed : (k : Call) (q : Session) (a s : List ℕ) → Bytes a → Passed (answered k q a s)
      → Listed s (answered k q a s).0.2 (answered k q a s).1
  pub anywhere : (w : World) (es : List Event) → length w.area ≡ area_size → Bytes w.area
      → source_of w.area ≢ None → Quiet es → Lasts w es
  pub repair : (a s : List ℕ) (count : ℕ) → Bytes a → (repaired a s).0 ≡ gives count → Repairs a (pairs count (repaired a s).1)
  pub repair_listed : (a s : List ℕ) (count : ℕ) → (repaired a s).0 ≡ gives count → Listed s count (repaired a s).1
