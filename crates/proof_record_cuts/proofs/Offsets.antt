-- Where the stores lie, that each is one word, and how many there are. Assumes nothing.
use mathlib.Core.Path.{◌≡◌, refl}
use mathlib.Core.Logic.{inl, inr}
use mathlib.Core.Bool.{Bool, true, false, cond}
use mathlib.Core.List.{List, []}
use Rattle.std.specs.Prelude.{Option, Some, None}
use Prim.Native.Nat.{ℕ, ◌+◌, ◌*◌, ◌-◌, ◌/◌, ◌%◌, ◌≤◌}
use native.Mathlib.Omega.{arith}
use lib.ListN.{length, drop, length-map, length-append}
use Rattle.fields.specs.Number.{Bytes}
use Rattle.fields.specs.Guid.{same}
use Rattle.fields.proofs.Bytes.{take_bytes, drop_bytes}
use Rattle.record_layout.specs.Layout.{copy_size, version_at, record_of, copy0, copy1}
use Rattle.record_layout.specs.Rules.{sound}
use Rattle.record_copies.specs.Copies.{source_of, read_from, record_read, sound_and_equal}
use Rattle.record_copies.specs.declared.Source.{Source}
use Rattle.record_copies.specs.declared.Source.TheVariants.{Copy0, Copy1}
use Rattle.record_copies.proofs.Reading.{from_copy0, from_copy1}
use Rattle.record_stores.specs.Stores.{Store, store, shift, store_numbers, other_words, differing, writes, plan}
use Rattle.record_stores.specs.Added.{copy_pairs}
use Rattle.record_store_lists.specs.ChangeStores.{copy_stores, change_stores, other_stores, repair_stores}
use Rattle.proof_format_cuts.specs.Area.{Each}
use Rattle.proof_format_cuts.proofs.Runs.{each_append, each_map, each_weaken}
use Rattle.proof_record_cuts.specs.Version2.{record_length}
use Rattle.proof_record_cuts.specs.Offsets.{StoreWithin, InEither, InWord, other_at, StoreRules}
use Rattle.proof_record_cuts.proofs.Words.{word_small}
use Rattle.proof_record_cuts.proofs.Plan.{other_word, length_offsets, differing_mem, length_differing, writes_each}
use Rattle.proof_record_cuts.proofs.Version2.{two_words, whole_words, record_high}

-- ---- one plan
placed : (base : ℕ) (c r : List ℕ) → base % 4 ≡ 0 → 8 ≤ length r → 4 * (length r / 4) ≡ length r
    → Each (StoreWithin base (length r)) (plan base c r)
unfolding plan
placed base c r even k w =
    each_map (StoreWithin base (length r)) (shift base) (writes r (differing c r (other_words r)))
    (writes_each (λ s. StoreWithin base (length r) (shift base s)) r (differing c r (other_words r)) (one version_at 0 refl (omega arith))
    (one version_at (store r version_at).1 refl (omega arith)) (λ o m.
    let p = other_word r o k w (differing_mem c r (other_words r) o m) in
    one o (store r o).1 p.aligned p.inside))
  where
    one : (o w : ℕ) → o % 4 ≡ 0 → o + 4 ≤ length r → StoreWithin base (length r) (shift base (o, w))
    one o w e h = record { aligned = omega arith; low = omega arith; high = omega arith }

-- each store's word: 0, or four bytes of the record
plan_words : (base : ℕ) (c r : List ℕ) → Bytes r → Each InWord (plan base c r)
unfolding plan
plan_words base c r b =
    each_map InWord (shift base) (writes r (differing c r (other_words r)))
    (writes_each (λ s. InWord (shift base s)) r (differing c r (other_words r)) (omega arith) (word_small r b version_at)
    (λ o m. word_small r b o))

count : (base : ℕ) (c r : List ℕ) → 8 ≤ length r → length (plan base c r) ≤ length r / 4 + 1
unfolding plan writes other_words
count base c r k =
    let n : length (differing c r (other_words r)) ≤ 1 + (length r / 4 - 2) =
    omega (arith, length_differing c r (other_words r), length_offsets 8 (length r / 4 - 2)) in
    simp (length-map, length-append) (omega arith)

-- ---- a sound record's
module _ (base : ℕ) (c r : List ℕ) (h : sound r ≡ true) where
  into : base % 4 ≡ 0 → Each (StoreWithin base (length r)) (plan base c r)
  into even = placed base c r even (two_words r h) (whole_words r h)

  few : length (plan base c r) ≤ copy_pairs
  few = omega (arith, count base c r (two_words r h), record_high r h)

-- ---- a change lists such a plan or none into each copy
copy_by : (Q : List Store → Type 0) (base : ℕ) (c r : List ℕ) → Q [] → Q (plan base c r) → Q (copy_stores base c r)
unfolding copy_stores
copy_by Q base c r none p = go (same (record_of c) r)
  where
    go : (t : Bool) → Q (cond t [] (plan base c r))
    go true = none
    go false = p

change_each : (P : Store → Type 0) (a new : List ℕ) → Each P (plan 0 (copy0 a) new) → Each P (plan copy_size (copy1 a) new)
    → Each P (change_stores a new)
unfolding change_stores
change_each P a new p q =
    each_append P (copy_stores 0 (copy0 a) new) (copy_stores copy_size (copy1 a) new) (copy_by (Each P) 0 (copy0 a) new tt p)
    (copy_by (Each P) copy_size (copy1 a) new tt q)

change_placed : (a new : List ℕ) → sound new ≡ true → Each (InEither (length new)) (change_stores a new)
change_placed a new h =
    change_each (InEither (length new)) a new
    (each_weaken (StoreWithin 0 (length new)) (InEither (length new)) (plan 0 (copy0 a) new) (λ s p. inl p) (into 0 (copy0 a) new h refl))
    (each_weaken (StoreWithin copy_size (length new)) (InEither (length new)) (plan copy_size (copy1 a) new) (λ s p. inr p)
    (into copy_size (copy1 a) new h refl))

change_count : (a new : List ℕ) → sound new ≡ true → 2 * length (change_stores a new) ≤ store_numbers
unfolding change_stores
change_count a new h =
    rw length-append (omega (arith, each_few 0 (copy0 a), each_few copy_size (copy1 a)))
  where
    each_few : (base : ℕ) (c : List ℕ) → length (copy_stores base c new) ≤ copy_pairs
    each_few base c = copy_by (λ ss. length ss ≤ copy_pairs) base c new (omega arith) (few base c new h)

-- ---- a repair lists one into the other copy, or none
repair_by : (Q : List Store → Type 0) (a : List ℕ) → Q [] → (source_of a ≡ Some Copy0 → Q (plan copy_size (copy1 a) (record_of (copy0 a))))
    → (source_of a ≡ Some Copy1 → Q (plan 0 (copy0 a) (record_of (copy1 a))))
    → Q (repair_stores a)
unfolding repair_stores other_stores read_from
repair_by Q a none p q = go (sound_and_equal a) (source_of a) refl
  where
    go : (t : Bool) (s : Option Source) → source_of a ≡ s → Q (cond t [] (other_stores s a))
    go true s e = none
    go false (Some Copy0) e = p e
    go false (Some Copy1) e = q e
    go false None e = none

repair_placed : (a : List ℕ) → Each (StoreWithin (other_at (source_of a)) (length (record_read a))) (repair_stores a)
unfolding read_from
repair_placed a =
    repair_by (Each (StoreWithin (other_at (source_of a)) (length (record_read a)))) a tt
    (λ e. rw e (into copy_size (copy1 a) (record_of (copy0 a)) (from_copy0 a e) refl))
    (λ e. rw e (into 0 (copy0 a) (record_of (copy1 a)) (from_copy1 a e) refl))

repair_count : (a : List ℕ) → 2 * length (repair_stores a) ≤ store_numbers
repair_count a =
    repair_by (λ ss. 2 * length ss ≤ store_numbers) a (omega arith)
    (λ e. omega (arith, few copy_size (copy1 a) (record_of (copy0 a)) (from_copy0 a e)))
    (λ e. omega (arith, few 0 (copy0 a) (record_of (copy1 a)) (from_copy1 a e)))

repair_words : (a : List ℕ) → Bytes a → Each InWord (repair_stores a)
unfolding record_of
repair_words a b =
    let b0 : Bytes (copy0 a) = take_bytes copy_size a b in
    let b1 : Bytes (copy1 a) = take_bytes copy_size (drop copy_size a) (drop_bytes copy_size a b) in
    repair_by (Each InWord) a tt
    (λ e. plan_words copy_size (copy1 a) (record_of (copy0 a)) (take_bytes (record_length (copy0 a)) (copy0 a) b0))
    (λ e. plan_words 0 (copy0 a) (record_of (copy1 a)) (take_bytes (record_length (copy1 a)) (copy1 a) b1))

pub store_rules : StoreRules
store_rules =
    record {
      plan_placed = placed;
      plan_count = count;
      change_placed = change_placed;
      change_count = change_count;
      change_words = λ a new b. change_each InWord a new (plan_words 0 (copy0 a) new b) (plan_words copy_size (copy1 a) new b);
      repair_placed = repair_placed;
      repair_count = repair_count;
      repair_words = repair_words;
    }
