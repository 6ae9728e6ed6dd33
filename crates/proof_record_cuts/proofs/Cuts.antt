-- What the theorem says of record version 2 is what the product's own definitions say. Assumes nothing.
use mathlib.Core.Path.{◌≡◌, refl, sym, ap, ◌∙◌}
use mathlib.Core.Logic.{◌≢◌, inl, inr, ⊎_elim}
use mathlib.Core.Bool.{Bool, true, false, cond, ◌&&◌}
use mathlib.Core.Option.{Option, none, some}
use Rattle.std.specs.Prelude.{Some, None}
use Rattle.std.specs.Prelude as std
use mathlib.Core.List.{List, [], ◌∷◌, ◌++◌, map, append-nil}
use Prim.Native.Nat.{ℕ, ◌≤◌}
use native.Mathlib.Nat.{zero-add}
use lib.ListN.{length}
use Rattle.fields.specs.Number.{Bytes}
use Rattle.fields.specs.Guid.{same}
use Rattle.fields.proofs.Guid.{same_true, same_refl, same_false}
use Rattle.fields.proofs.Tests.{both, no_true}
use Rattle.record_layout.specs.Layout.{area_size, copy_size, record_of, copy0, copy1}
use Rattle.record_layout.specs.Rules.{sound, sound_copy}
use Rattle.record_copies.specs.Copies.{source_of, read_from, record_read, records_equal, sound_and_equal}
use Rattle.record_copies.specs.declared.Source.{Source}
use Rattle.record_copies.specs.declared.Source.TheVariants.{Copy0, Copy1}
use Rattle.record_stores.specs.Stores.{Store, shift, plan}
use Rattle.record_store_lists.specs.ChangeStores.{copy_stores, change_stores, other_stores, repair_stores}
use Rattle.proof_format_cuts.specs.Area.{after_cut}
use Rattle.proof_format_cuts.specs.Format as format
use Rattle.proof_format_cuts.specs.Theorem as general
use Rattle.proof_record_cuts.specs.Version2.{version2, planned}
use Rattle.proof_record_cuts.specs.Cuts.{IsRead, BothHold, changed, mended, ChangeCut, RepairCut, RecordCuts}
use Rattle.proof_record_cuts.proofs.Version2.{cuts}

-- ---- the record read
-- whether an option holds anything, and whether a source is a copy
abbrev holds : Option (List ℕ) → Bool
holds none = false
holds (some r) = true

abbrev a_copy : std.Option Source → Bool
a_copy None = false
a_copy (Some s) = true

read_is : (a r : List ℕ) → general.record_read version2 a ≡ some r → IsRead a r
unfolding general.record_read general.read_of format.sound_copy format.record_of version2 sound_copy record_of source_of read_from
read_is a r e = go (sound_copy (copy0 a)) (sound_copy (copy1 a)) refl refl e
  where
    go : (s t : Bool) → sound_copy (copy0 a) ≡ s → sound_copy (copy1 a) ≡ t
        → cond s (some (record_of (copy0 a))) (cond t (some (record_of (copy1 a))) none) ≡ some r → IsRead a r
    go true t p q e = record { one_sound = rw p (λ z. no_true (sym (ap a_copy z))); is = rw p cc }
    go false true p q e = record { one_sound = rw (p, q) (λ z. no_true (sym (ap a_copy z))); is = rw (p, q) cc }
    go false false p q e = absurd (no_true (ap holds e))

read_some : (a : List ℕ) → source_of a ≢ None → general.record_read version2 a ≡ some (record_read a)
unfolding general.record_read general.read_of format.sound_copy format.record_of version2 sound_copy record_of source_of read_from
read_some a h = go (sound_copy (copy0 a)) (sound_copy (copy1 a)) h
  where
    go : (s t : Bool) → cond s (Some Copy0) (cond t (Some Copy1) None) ≢ None
        → cond s (some (record_of (copy0 a))) (cond t (some (record_of (copy1 a))) none) ≡ some (read_from (cond s (Some Copy0) (cond t
        (Some Copy1) None)) a)
    go true t h = refl
    go false true h = refl
    go false false h = absurd (h refl)

is_read : (a r : List ℕ) → IsRead a r → general.record_read version2 a ≡ some r
is_read a r h = read_some a h.one_sound ∙ ap {B = Option (List ℕ)} (λ (l : List ℕ). some l) h.is

-- ---- two sound and equal copies
pub both_of : (a r : List ℕ) → general.BothHold version2 r a → BothHold a r
unfolding format.sound_copy format.record_of version2 sound_copy record_of
both_of a r h = record { sound0 = h.sound0; is0 = h.is0; sound1 = h.sound1; is1 = h.is1 }

of_both : (a r : List ℕ) → BothHold a r → general.BothHold version2 r a
unfolding format.sound_copy format.record_of version2 sound_copy record_of
of_both a r h = record { sound0 = h.sound0; is0 = h.is0; sound1 = h.sound1; is1 = h.is1 }

held : (a : List ℕ) → sound_and_equal a ≡ true → BothHold a (record_of (copy0 a))
unfolding sound_and_equal records_equal
held a e =
    let p = both (sound_copy (copy0 a) && sound_copy (copy1 a)) (same (record_of (copy0 a)) (record_of (copy1 a))) e in
    let q = both (sound_copy (copy0 a)) (sound_copy (copy1 a)) p.0 in
    record { sound0 = q.0; is0 = refl; sound1 = q.1; is1 = sym (same_true (record_of (copy0 a)) (record_of (copy1 a)) p.1) }

pub equal : (a r : List ℕ) → BothHold a r → sound_and_equal a ≡ true
unfolding sound_and_equal records_equal
equal a r h = rw (h.sound0, h.sound1, h.is0, h.is1, same_refl r)

-- ---- the stores
shift_none : (ss : List Store) → map (shift 0) ss ≡ ss
shift_none [] = refl
shift_none (s ∷ ss) = rw (zero-add s.0, shift_none ss)

-- into one copy
copy_is : (base : ℕ) (c r : List ℕ) → map (shift base) (general.sparing version2 planned c r) ≡ copy_stores base c r
unfolding general.sparing format.record_of version2 planned copy_stores plan record_of
copy_is base c r = go (same (record_of c) r)
  where
    go : (t : Bool) → map (shift base) (cond t [] (planned c r)) ≡ cond t [] (map (shift base) (planned c r))
    go true = refl
    go false = refl

-- of a change
change_is : (a new : List ℕ) → general.change_list version2 planned a new ≡ change_stores a new
unfolding general.change_list version2 change_stores
change_is a new =
    ap (λ (ss : List Store). ss ++ map (shift copy_size) (general.sparing version2 planned (copy1 a) new))
    (sym (shift_none (general.sparing version2 planned (copy0 a) new)) ∙ copy_is 0 (copy0 a) new)
    ∙ ap (λ (ss : List Store). copy_stores 0 (copy0 a) new ++ ss) (copy_is copy_size (copy1 a) new)

-- of a repair: those of a change to the record read, since the copy that it is read from gets none
module _ (base : ℕ) (c r : List ℕ) where
  spared : record_of c ≡ r → copy_stores base c r ≡ []
  unfolding copy_stores
  spared e = rw (e, same_refl r)

  written : (record_of c ≡ r → ⊥) → copy_stores base c r ≡ plan base c r
  unfolding copy_stores
  written e = rw (same_false (record_of c) r e)

-- a sound copy and an unsound one hold no record in common
apart : (c d : List ℕ) → sound_copy c ≡ true → sound_copy d ≡ false → record_of d ≡ record_of c → ⊥
unfolding sound_copy
apart c d p q e = no_true (sym q ∙ ap sound e ∙ p)

abbrev from : Bool → Bool → std.Option Source
from s t = cond s (Some Copy0) (cond t (Some Copy1) None)

module _ (a : List ℕ) where
  abbrev r0 : List ℕ
  r0 = record_of (copy0 a)

  abbrev r1 : List ℕ
  r1 = record_of (copy1 a)

  repair_is : source_of a ≢ None → change_stores a (record_read a) ≡ repair_stores a
  unfolding change_stores repair_stores sound_and_equal records_equal other_stores source_of read_from
  repair_is h = go (sound_copy (copy0 a)) (sound_copy (copy1 a)) (same r0 r1) refl refl refl h
    where
      go : (s t e : Bool) → sound_copy (copy0 a) ≡ s → sound_copy (copy1 a) ≡ t → same r0 r1 ≡ e → from s t ≢ None
          → copy_stores 0 (copy0 a) (read_from (from s t) a) ++ copy_stores copy_size (copy1 a) (read_from (from s t) a)
          ≡ cond ((s && t) && e) [] (other_stores (from s t) a)
      go true true true p q z h = rw (spared 0 (copy0 a) r0 refl, spared copy_size (copy1 a) r0 (sym (same_true r0 r1 z)))
      go true true false p q z h =
          rw (spared 0 (copy0 a) r0 refl, written copy_size (copy1 a) r0 (λ w. no_true (sym z ∙ ap (same r0) w ∙ same_refl r0)))
      go true false e p q z h = rw (spared 0 (copy0 a) r0 refl, written copy_size (copy1 a) r0 (apart (copy0 a) (copy1 a) p q))
      go false true e p q z h =
          rw (written 0 (copy0 a) r1 (apart (copy1 a) (copy0 a) q p), spared copy_size (copy1 a) r1 refl) (append-nil (plan 0 (copy0 a) r1))
      go false false e p q z h = absurd (h refl)

none_listed : (a : List ℕ) → sound_and_equal a ≡ true → repair_stores a ≡ []
unfolding repair_stores
none_listed a e = rw e

-- ---- the statement
area_of : (a : List ℕ) → length a ≡ area_size → Bytes a → format.Area version2 a
unfolding version2
area_of a l b = record { long = l; bytes = b }

-- a change
module _ (a new : List ℕ) (l : length a ≡ area_size) (b : Bytes a) (e : sound_and_equal a ≡ true) (bn : Bytes new) (sn : sound new ≡
    true) where
  cut_is : (n : ℕ) → general.cut version2 planned a new n ≡ changed a new n
  unfolding general.cut
  cut_is n = ap (λ (ss : List Store). after_cut a ss n) (change_is a new)

  survives : (n : ℕ) → general.Survives version2 planned a (record_of (copy0 a)) new n
  unfolding version2
  survives n = cuts.change a (record_of (copy0 a)) new n (area_of a l b) (of_both a (record_of (copy0 a)) (held a e)) bn sn

  reads : (n : ℕ) (r : List ℕ) → general.record_read version2 (general.cut version2 planned a new n) ≡ some r → IsRead (changed a new n) r
  reads n r h = read_is (changed a new n) r (rw (cut_is n) at h)

  all_done : (n : ℕ) → length (change_stores a new) ≤ n → length (general.change_list version2 planned a new) ≤ n
  all_done n k = rw (change_is a new) k

  change_cut : (n : ℕ) → ChangeCut a (record_of (copy0 a)) new n
  unfolding version2
  change_cut n =
      let h = survives n in
      record {
        either = ⊎_elim (λ z. inl (reads n (record_of (copy0 a)) z)) (λ z. inr (reads n new z)) h.either;
        first = λ z. reads n (record_of (copy0 a)) (h.first z);
        last = λ k. reads n new (h.last (all_done n k));
        after_all = λ k. both_of (changed a new n) new (rw (cut_is n) at (h.written.after_all (all_done n k)));
        area = λ k. sym (cut_is n) ∙ h.written.area (all_done n k);
        later = λ m k z. reads m new (h.later m k (rw (cut_is n) (is_read (changed a new n) new z)));
        long = ap length (sym (cut_is n)) ∙ h.written.kept ∙ l;
        bytes = rw (cut_is n) at h.written.bytes;
      }

-- a repair
module _ (a : List ℕ) (l : length a ≡ area_size) (b : Bytes a) (s : source_of a ≢ None) where
  stores_are : general.change_list version2 planned a (record_read a) ≡ repair_stores a
  stores_are = change_is a (record_read a) ∙ repair_is a s

  mended_is : (n : ℕ) → general.cut version2 planned a (record_read a) n ≡ mended a n
  unfolding general.cut
  mended_is n = ap (λ (ss : List Store). after_cut a ss n) stores_are

  repair_cut : (n : ℕ) → RepairCut a n
  unfolding version2
  repair_cut n =
      let h = cuts.restore a (record_read a) n (area_of a l b) (read_some a s) in
      record {
        reads = read_is (mended a n) (record_read a) (rw (mended_is n) at h.reads);
        after_all = λ k. both_of (mended a n) (record_read a) (rw (mended_is n) at (h.written.after_all (rw stores_are k)));
        area = λ k. sym (mended_is n) ∙ h.written.area (rw stores_are k);
        long = ap length (sym (mended_is n)) ∙ h.written.kept ∙ l;
        bytes = rw (mended_is n) at h.written.bytes;
      }

pub record_cuts : RecordCuts
record_cuts =
    record {
      change = λ a new n l b e bn sn. change_cut a new l b e bn sn n;
      repair = λ a n l b s. repair_cut a l b s n;
      again = repair_is;
      none = none_listed;
      held = held;
      equal = equal;
    }
