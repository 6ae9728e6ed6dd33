-- The laws of a history. Assumes nothing.
use mathlib.Core.Path.{◌≡◌, refl, sym, ap}
use mathlib.Core.Option.{none}
use mathlib.Core.List.{List, [], ◌∷◌, ◌++◌}
use Prim.Native.Nat.{ℕ, zero, suc, ◌*◌}
use lib.ListN.{length, drop}
use lib.Seq.{take-length}
use Rattle.record_stores.specs.Stores.{Store, numbers_of, with_list}
use Rattle.refusal_order.specs.Decide.{Reply, gives, refuses}
use Rattle.update_session.specs.declared.Session.{Session}
use Rattle.update_start_up.specs.StartUp.{start_up_of}
use Rattle.proof_format_cuts.specs.Area.{after_stores, after_cut}
use Rattle.proof_history.specs.History.{World, Fate, whole, cut, Event, pairs, list_of, Effect, nothing, does, start_up_effect, repair_effect, call_effect, call_effect_of, effect_of, area_after, session_after, step_by, step, run}
use Rattle.proof_history.specs.HistoryLaws.{world, HistoryLaws}

pairs_numbers : (ss : List Store) (t : List ℕ) → pairs (length ss) (numbers_of ss ++ t) ≡ ss
unfolding pairs numbers_of
pairs_numbers [] t = refl
pairs_numbers (s ∷ ss) t = ap {B = List Store} (λ l. s ∷ l) (pairs_numbers ss t)

read_back : (s : List ℕ) (ss : List Store) → pairs (length ss) (with_list s ss) ≡ ss
unfolding with_list
read_back s ss = pairs_numbers ss (drop (2 * length ss) s)

no_list : (fate : Fate) (a : List ℕ) → area_after fate a [] ≡ a
unfolding area_after after_cut after_stores
no_list whole a = refl
no_list (cut zero) a = refl
no_list (cut (suc n)) a = refl

start_up_area : (w : World) (fate : Fate) (x : Reply Session) → (step_by (start_up_effect x) fate w).area ≡ w.area
unfolding step_by start_up_effect
start_up_area w fate (gives q) = no_list fate w.area
start_up_area w fate (refuses number values) = refl

no_session_stays : (a : List ℕ) (fate : Fate) → step_by nothing fate (world a none) ≡ world a none
unfolding step_by session_after
no_session_stays a whole = refl
no_session_stays a (cut n) = refl

cut_loses : (w : World) (n : ℕ) (x : Effect) → (step_by x (cut n) w).session ≡ none
unfolding step_by session_after
cut_loses w n nothing = refl
cut_loses w n (does next ss) = refl

goes_on : (w : World) (es fs : List Event) → run w (es ++ fs) ≡ run (run w es) fs
unfolding run
goes_on w [] fs = refl
goes_on w (e ∷ es) fs = goes_on (step w e) es fs

pub history_laws : HistoryLaws
unfolding list_of start_up_effect repair_effect call_effect call_effect_of effect_of area_after session_after step_by step run after_cut after_stores
history_laws =
    record {
      read_back = read_back;
      call_lists = λ q s ss. read_back s ss;
      cut_next = λ a s ss n. refl;
      cut_area = λ a ss n. refl;
      no_store = λ a ss. refl;
      whole_area = λ a ss. ap (after_stores a) (sym (take-length ss));
      all_area = λ a ss. refl;
      no_list = no_list;
      started = λ w booted s q e. rw e;
      not_started = λ w booted s number values e. rw e;
      start_up_area = λ w booted s fate. start_up_area w fate (start_up_of w.area booted);
      repair_refused = λ w s fate number values e. rw e;
      repair_done = λ w s fate count e. rw e;
      call_refused = λ k q a s fate number values e. rw e;
      call_done = λ k q a s fate e. rw e;
      no_session_stays = λ k a s fate. no_session_stays a fate;
      session_kept = λ q. refl;
      cut_loses = λ w act s n. cut_loses w n (effect_of act w s);
      goes_on = goes_on;
      one = λ w e. refl;
    }
