-- What start-ups and repairs leave of an area with a sound copy: one event, and by one induction a list of them.
-- Assumes nothing.
use mathlib.Core.Path.{◌≡◌, refl, sym, ap, subst, ◌∙◌}
use mathlib.Core.Logic.{◌≢◌, inl, inr, ⊎_elim}
use mathlib.Core.Bool.{Bool, true, false, cond, not, ◌||◌}
use mathlib.Core.List.{List, [], ◌∷◌}
use Prim.Native.Nat.{ℕ, ◌≤◌}
use native.Mathlib.Omega.{arith}
use borrow.Author.Tests.{eq-eqb, eqb-true, ltb-false}
use lib.ListN.{length}
use Rattle.fields.specs.Number.{Bytes}
use Rattle.fields.proofs.Tests.{no_true}
use Rattle.record_layout.specs.Layout.{area_size, copy0, copy1}
use Rattle.record_layout.specs.Rules.{sound_copy}
use Rattle.record_copies.specs.Copies.{source_of, record_read}
use Rattle.record_copies.specs.declared.Source.TheVariants.{Copy0, Copy1}
use Rattle.std.specs.Prelude.{Some, None}
use Rattle.record_stores.specs.Stores.{Store, store_numbers, with_list}
use Rattle.record_store_lists.specs.ChangeStores.{repair_stores}
use Rattle.refusal_order.specs.Decide.{Decision, passed, refusal, decide, Reply, gives, refuses}
use Rattle.refusal_order.proofs.Decide.{no_fault}
use Rattle.update_admission.specs.Rows.{sound_test, read_tests, repair_tests}
use Rattle.update_session.proofs.Answered.{not_false}
use Rattle.update_start_up.specs.StartUp.{started_from, start_up_tests, start_up_of}
use Rattle.update_repair.specs.Repair.{repaired_by, repaired}
use Rattle.proof_format_cuts.specs.Area.{after_cut}
use Rattle.proof_record_cuts.specs.Cuts.{IsRead, BothHold, RepairCut}
use Rattle.proof_record_cuts.proofs.Cuts.{record_cuts}
use Rattle.proof_history.specs.History.{World, Act, starts_up, repairs, calls, Fate, whole, cut, Event, pairs, area_after, step, run}
use Rattle.proof_history.specs.HistoryLaws.{event}
use Rattle.proof_history.proofs.HistoryLaws.{history_laws}
use Rattle.proof_power_cuts.specs.PowerCuts.{Reads, NoCall, Quiet, AllDone, FinishesAs, Finishes, Finished, QuietLists, Lasts}

-- an area with a sound copy
pub record Good (a : List ℕ) : Type 0 where
  pub long : length a ≡ area_size
  pub bytes : Bytes a
  pub one_sound : source_of a ≢ None

-- ---- 21: a copy is sound exactly where one is read
some_sound : (x y : Bool) → cond x (Some Copy0) (cond y (Some Copy1) None) ≢ None → not (x || y) ≡ false
some_sound true y h = refl
some_sound false true h = refl
some_sound false false h = absurd (h refl)

one_read : (x y : Bool) → not (x || y) ≡ false → cond x (Some Copy0) (cond y (Some Copy1) None) ≢ None
one_read true y e z = let z : ◌≡◌ {A = ℕ} 0 1 = cc in omega arith
one_read false true e z = let z : ◌≡◌ {A = ℕ} 0 1 = cc in omega arith
one_read false false e z = no_true (sym e)

pub is_sound : (a : List ℕ) → source_of a ≢ None → (sound_test a).0 ≡ false
unfolding source_of
is_sound a h = some_sound (sound_copy (copy0 a)) (sound_copy (copy1 a)) h

-- ---- start-up
from_read : (a : List ℕ) (booted : ℕ) → length a ≡ area_size → source_of a ≢ None → start_up_of a booted ≡ started_from (record_read a) booted
unfolding start_up_of start_up_tests read_tests started_from decide
from_read a booted l h = rw (eq-eqb (length a) area_size l, is_sound a h)

pub reads : (a r : List ℕ) → length a ≡ area_size → IsRead a r → Reads a r
reads a r l i =
    record {
      one_sound = i.one_sound;
      is = i.is;
      answers = λ booted. from_read a booted l i.one_sound ∙ ap (λ (x : List ℕ). started_from x booted) i.is;
    }

-- ---- repair: what an accepted one tells
pub record Mends (a s : List ℕ) (count : ℕ) : Type 0 where
  pub long : length a ≡ area_size
  pub room : store_numbers ≤ length s
  pub one_sound : source_of a ≢ None
  pub counts : count ≡ length (repair_stores a)
  pub lists : (repaired a s).1 ≡ with_list s (repair_stores a)

module _ (a s : List ℕ) (count : ℕ) where
  went_on : (d : Decision) → (repaired_by d a s).0 ≡ gives count
      → (passed ≡ d) × (count ≡ length (repair_stores a)) × ((repaired_by d a s).1 ≡ with_list s (repair_stores a))
  unfolding repaired_by
  went_on passed e = (refl, cc, refl)
  went_on (refusal number values) e = let z : ◌≡◌ {A = ℕ} 0 1 = cc in absurd (omega arith)

  pub mends : (repaired a s).0 ≡ gives count → Mends a s count
  unfolding repaired repair_tests source_of
  mends e =
      let w = went_on (decide (repair_tests a (length s))) e in
      let p = no_fault (repair_tests a (length s)) w.0 in
      record {
        long = eqb-true (length a) area_size (not_false _ p.0);
        room = ltb-false (length s) store_numbers p.1.0;
        one_sound = one_read (sound_copy (copy0 a)) (sound_copy (copy1 a)) p.1.1.0;
        counts = w.1;
        lists = w.2;
      }

pub repair_lists : (a s : List ℕ) (count : ℕ) → Mends a s count → pairs count (repaired a s).1 ≡ repair_stores a
repair_lists a s count m = rw (m.counts, m.lists) (history_laws.read_back s (repair_stores a))

-- ---- how far an event went
abbrev stop_at : Fate → ℕ → ℕ
stop_at whole k = k
stop_at (cut n) k = n

as_cut : (fate : Fate) (a : List ℕ) (ss : List Store) → area_after fate a ss ≡ after_cut a ss (stop_at fate (length ss))
unfolding area_after
as_cut whole a ss = history_laws.whole_area a ss
as_cut (cut n) a ss = refl

all_done : (fate : Fate) (k : ℕ) → AllDone (gives k) fate → k ≤ stop_at fate k
all_done whole k h = omega arith
all_done (cut n) k h = h

-- ---- what is left: b is the area after, F that a repair has finished
pub record Left (a b : List ℕ) (F : Type 0) : Type 0 where
  pub good : Good b
  pub same : record_read b ≡ record_read a
  pub holds : (r : List ℕ) → BothHold a r → BothHold b r
  pub finished : F → BothHold b (record_read a)

unmoved : (a b : List ℕ) (F : Type 0) → b ≡ a → Good a → (F → ⊥) → Left a b F
unmoved a b F e g h =
    rw e (record { good = g; same = refl; holds = λ r x. x; finished = λ f. absurd (h f) })

mended : (a s : List ℕ) (count : ℕ) (fate : Fate) → Good a → (repaired a s).0 ≡ gives count
    → Left a (area_after fate a (pairs count (repaired a s).1)) (AllDone (gives count) fate)
mended a s count fate g e =
    let m : Mends a s count = mends a s count e in
    let n : ℕ = stop_at fate (length (repair_stores a)) in
    let c : RepairCut a n = record_cuts.repair a n g.long g.bytes g.one_sound in
    let is = ap (area_after fate a) (repair_lists a s count m) ∙ as_cut fate a (repair_stores a) in
    rw (is, m.counts)
    (record {
      good = record { long = c.long; bytes = c.bytes; one_sound = c.reads.one_sound };
      same = c.reads.is;
      holds = λ r b. subst (λ (x : List ℕ). BothHold x r)
          (sym (sym (as_cut fate a (repair_stores a)) ∙ ap (area_after fate a) (record_cuts.none a (record_cuts.equal a r b)) ∙ history_laws.no_list fate a)) b;
      finished = λ f. c.after_all (all_done fate (length (repair_stores a)) f);
    })

-- one event
stepped : (act : Act) (w : World) (s : List ℕ) (fate : Fate) → Good w.area → NoCall act
    → Left w.area (step w (event act s fate)).area (FinishesAs act (repaired w.area s).0 fate)
stepped (starts_up booted) w s fate g h = unmoved w.area _ ⊥ (history_laws.start_up_area w booted s fate) g (λ f. f)
stepped repairs w s fate g h = go (repaired w.area s).0 refl
  where
    go : (x : Reply ℕ) → (repaired w.area s).0 ≡ x → Left w.area (step w (event repairs s fate)).area (AllDone x fate)
    go (gives count) e = rw (history_laws.repair_done w s fate count e) (mended w.area s count fate g e)
    go (refuses number values) e =
        unmoved w.area _ ⊥ (ap (λ (v : World). v.area) (history_laws.repair_refused w s fate number values e)) g (λ f. f)
stepped (calls k) w s fate g h = absurd h

-- one after another
run_left : (w : World) (es : List Event) → Good w.area → Quiet es → Left w.area (run w es).area (Finished w es)
unfolding run
run_left w [] g h = unmoved w.area w.area ⊥ refl g (λ f. f)
run_left w (e ∷ es) g h =
    let one : Left w.area (step w e).area (Finishes w e) = stepped e.act w e.slice e.fate g h.0 in
    let rest : Left (step w e).area (run (step w e) es).area (Finished (step w e) es) = run_left (step w e) es one.good h.1 in
    record {
      good = rest.good;
      same = rest.same ∙ one.same;
      holds = λ r b. rest.holds r (one.holds r b);
      finished = ⊎_elim (λ f. rest.holds (record_read w.area) (one.finished f))
          (λ f. subst (λ (r : List ℕ). BothHold (run (step w e) es).area r) one.same (rest.finished f));
    }

pub lasts : (w : World) (es : List Event) → Good w.area → Quiet es → Lasts w es
lasts w es g h =
    let l : Left w.area (run w es).area (Finished w es) = run_left w es g h in
    let r : Reads (run w es).area (record_read w.area) =
    reads (run w es).area (record_read w.area) l.good.long (record { one_sound = l.good.one_sound; is = l.same }) in
    record {
      long = l.good.long;
      bytes = l.good.bytes;
      reads = r;
      answers = λ booted. r.answers booted ∙ sym (from_read w.area booted g.long g.one_sound);
      both_hold = l.finished;
    }

-- ---- the lists that there are
pub quiet_lists : QuietLists
quiet_lists =
    record {
      empty = tt;
      start_up = λ booted s fate es h. (tt, h);
      repair = λ s fate es h. (tt, h);
      finished = λ w s count n es e h. inl (rw e h);
      finished_whole = λ w s count es e. inl (rw e tt);
      later = λ w e es h. inr h;
    }
