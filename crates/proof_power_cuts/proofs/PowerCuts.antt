-- The statement on power cuts (specs/PowerCuts.antt), of start-up, repair and the six calls. Assumes nothing.
use mathlib.Core.Path.{◌≡◌, sym, ap, subst, ◌∙◌}
use mathlib.Core.Logic.{inl, inr, ⊎_elim}
use mathlib.Core.Bool.{true}
use mathlib.Core.Option.{none}
use mathlib.Core.List.{List}
use Prim.Native.Nat.{ℕ, ◌*◌, ◌≤◌}
use native.Mathlib.Omega.{arith}
use lib.ListN.{length}
use lib.Seq.{take-length}
use Rattle.fields.specs.Number.{Bytes}
use Rattle.record_layout.specs.Layout.{area_size}
use Rattle.record_layout.specs.Rules.{sound}
use Rattle.record_copies.specs.Copies.{sound_and_equal}
use Rattle.record_stores.specs.Stores.{Store, with_list}
use Rattle.record_store_lists.specs.ChangeStores.{change_stores, repair_stores}
use Rattle.refusal_order.specs.Decide.{gives}
use Rattle.update_changes.specs.Changed.{Call, new_record}
use Rattle.update_session.specs.declared.Session.{Session}
use Rattle.update_session.specs.Calls.{held, next_session, changed_to, answered}
use Rattle.update_repair.specs.Repair.{repaired}
use Rattle.proof_format_cuts.specs.Area.{after_cut}
use Rattle.proof_record_cuts.specs.Cuts.{IsRead, ChangeCut, RepairCut}
use Rattle.proof_record_cuts.specs.Offsets.{InEither}
use Rattle.proof_format_cuts.proofs.Runs.{each_weaken}
use Rattle.proof_record_cuts.proofs.Cuts.{record_cuts}
use Rattle.proof_record_cuts.proofs.Offsets.{store_rules}
use Rattle.proof_kept_sound.proofs.Kept.{fields_made}
use Rattle.proof_call_results.specs.CallResults.{Passed}
use Rattle.proof_call_results.proofs.Tells.{Tells, tells}
use Rattle.proof_history.specs.History.{World, cut, Event, pairs, list_of, area_after, session_after}
use Rattle.proof_history.proofs.HistoryLaws.{history_laws}
use Rattle.proof_power_cuts.specs.PowerCuts.{cut_call, Listed, Reads, InRange, Survives, Repairs, PowerCuts}
use Rattle.proof_power_cuts.proofs.Lists.{Good, reads, Mends, mends, repair_lists, lasts}

-- a list laid at the front of a slice that holds it
laid : (s : List ℕ) (ss : List Store) → 2 * length ss ≤ length s → Listed s (length ss) (with_list s ss)
laid s ss h =
    let e = history_laws.read_back s ss in record { counted = ap length e; inside = rw e h; rest = ap (with_list s) (sym e) }

-- ---- a change to any sound record
module _ (a new : List ℕ) (n : ℕ) (l : length a ≡ area_size) (b : Bytes a) (e : sound_and_equal a ≡ true) (bn : Bytes new)
    (sn : sound new ≡ true) where
  abbrev at : (m : ℕ) → ChangeCut a (held a) new m
  at m = record_cuts.change a new m l b e bn sn

  abbrev from : (m : ℕ) (r : List ℕ) → IsRead (after_cut a (change_stores a new) m) r → Reads (after_cut a (change_stores a new) m) r
  from m r i = reads (after_cut a (change_stores a new) m) r (at m).long i

  survives : (w : World) (es : List Event) → w ≡ record { area = after_cut a (change_stores a new) n; session = none }
      → Survives a (held a) new (change_stores a new) n w es
  survives w es left =
      let h : ChangeCut a (held a) new n = at n in
      record {
        left = left;
        long = l;
        holds = record_cuts.held a e;
        new_sound = sn;
        new_bytes = bn;
        either = ⊎_elim (λ i. inl (from n (held a) i)) (λ i. inr (from n new i)) h.either;
        first = λ z. from n (held a) (h.first z);
        last = λ k. from n new (h.last k);
        after_all = h.after_all;
        area = h.area;
        later = λ m k r. from m new (h.later m k (record { one_sound = r.one_sound; is = r.is }));
        lasts = lasts w es (subst Good (ap (λ (v : World). v.area) (sym left))
            (record { long = h.long; bytes = h.bytes; one_sound = ⊎_elim (λ i. i.one_sound) (λ i. i.one_sound) h.either }));
        rules =
            record {
              placed =
                  each_weaken (InEither (length new)) (InRange (held a) new) (change_stores a new) (λ s p. inr p)
                  (store_rules.change_placed a new sn);
              words = store_rules.change_words a new bn;
              few = omega (arith, store_rules.change_count a new sn);
            };
      }

-- ---- the calls
module _ (k : Call) (q : Session) (a s : List ℕ) (b : Bytes a) (acc : Passed (answered k q a s)) where
  abbrev told : Tells k q a s
  told = tells k q a s b acc

  abbrev new : List ℕ
  new = new_record k (held a)

  call_lists : list_of (answered k q a s) ≡ change_stores a new
  unfolding changed_to
  call_lists = ap list_of told.is ∙ history_laws.call_lists (next_session k q (held a)) s (change_stores a new)

  call_left : (n : ℕ) → cut_call k q a s n ≡ record { area = after_cut a (list_of (answered k q a s)) n; session = none }
  unfolding area_after session_after
  call_left n = history_laws.call_done k q a s (cut n) acc

  call_survives : (n : ℕ) (es : List Event) → Survives a (held a) new (list_of (answered k q a s)) n (cut_call k q a s n) es
  call_survives n es =
      rw call_lists
      (survives a new n told.change.long b told.change.equal told.kept.bytes told.kept.is_sound (cut_call k q a s n) es
      (rw call_lists at (call_left n)))

  call_listed : Listed s (answered k q a s).0.2 (answered k q a s).1
  unfolding changed_to
  call_listed =
      let fits : 2 * length (change_stores a new) ≤ length s =
      omega (arith, store_rules.change_count a new told.kept.is_sound, told.change.room) in
      rw told.is (laid s (change_stores a new) fits)

-- ---- repair
module _ (a s : List ℕ) (count : ℕ) (acc : (repaired a s).0 ≡ gives count) where
  abbrev mended : Mends a s count
  mended = mends a s count acc

  repair_listed : Listed s count (repaired a s).1
  repair_listed =
      let fits : 2 * length (repair_stores a) ≤ length s = omega (arith, store_rules.repair_count a, mended.room) in
      rw (mended.counts, mended.lists) (laid s (repair_stores a) fits)

  repair_done : Bytes a → Repairs a (repair_stores a)
  unfolding after_cut
  repair_done b =
      let k : ℕ = length (repair_stores a) in
      let c : RepairCut a k = record_cuts.repair a k mended.long b mended.one_sound in
      record {
        is_area = mended.long;
        has_sound = mended.one_sound;
        none = record_cuts.none a;
        after_all = rw (take-length (repair_stores a)) at (c.after_all (omega arith));
        area = rw (take-length (repair_stores a)) at (c.area (omega arith));
        rules =
            record {
              placed = store_rules.repair_placed a;
              words = store_rules.repair_words a b;
              few = omega (arith, store_rules.repair_count a);
            };
      }

  repair_mends : Bytes a → Repairs a (pairs count (repaired a s).1)
  repair_mends b = rw (repair_lists a s count mended) (repair_done b)

pub power_cuts : PowerCuts
power_cuts =
    record {
      makes = fields_made;
      change = λ k q a s n es b acc. call_survives k q a s b acc n es;
      change_listed = λ k q a s b acc. call_listed k q a s b acc;
      anywhere = λ w es l b h. lasts w es (record { long = l; bytes = b; one_sound = h });
      repair = λ a s count b acc. repair_mends a s count acc b;
      repair_listed = λ a s count acc. repair_listed a s count acc;
    }
