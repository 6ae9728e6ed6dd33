-- The list of a change and of a repair: what is listed at each way out. Assumes nothing.
use mathlib.Core.Path.{◌≡◌, sym, ◌∙◌}
use mathlib.Core.Bool.{true, false}
use mathlib.Core.List.{List, [], ◌++◌}
use Prim.Native.Nat.{ℕ}
use Rattle.std.specs.Prelude.{Some}
use Rattle.fields.specs.Guid.{same}
use Rattle.record_layout.specs.Layout.{copy_size, record_of, copy0, copy1}
use Rattle.record_copies.specs.Copies.{source_of, read_from, sound_and_equal}
use Rattle.record_copies.specs.declared.Source.TheVariants.{Copy0, Copy1}
use Rattle.record_copies.proofs.Reading.{copy0_unsound, equal_same}
use Rattle.record_stores.specs.Stores.{Store, plan}
use Rattle.record_stores.specs.Added.{Added}
use Rattle.record_stores.proofs.Laid.{added_all, with_list_none}
use Rattle.record_store_lists.specs.ChangeStores.{copy_stores, change_stores, other_stores, repair_stores}
use Rattle.record_alterations.specs.Altered.{record_with}
use Rattle.record_store_lists.specs.Lists.{AtFront}
use Rattle.record_alterations.specs.declared.Alteration.{Alteration}

-- a list from the front, and none
pub at_front : (n : ℕ) (ss : List Store) (d f : List ℕ) → Added 0 n ss d f → AtFront n ss d f
at_front n ss d f s = let q = added_all n ss d f s in record { count = q.0; lists = q.1 }

pub at_front_none : (ss : List Store) (d : List ℕ) → ss ≡ [] → AtFront 0 ss d d
at_front_none ss d e = record { count = rw e; lists = rw (e, with_list_none) }

-- a change: r is the record of copy 0, and of copy 1
module _ (x : Alteration) (a r : List ℕ) (e : r ≡ record_of (copy0 a)) (q : sound_and_equal a ≡ true) where
  second : record_of (copy1 a) ≡ r
  second = sym (e ∙ equal_same a q)

  abbrev stores : List Store
  stores = change_stores a (record_with x (record_of (copy0 a)))

  pub stores_none : true ≡ same r (record_with x r) → stores ≡ []
  unfolding change_stores copy_stores
  stores_none h = rw (← e, second, ← h)

  pub stores_both : false ≡ same r (record_with x r) → stores
      ≡ plan 0 (copy0 a) (record_with x r) ++ plan copy_size (copy1 a) (record_with x r)
  unfolding change_stores copy_stores
  stores_both h = rw (← e, second, ← h)

-- a repair
module _ (a : List ℕ) where
  pub repair_none : true ≡ sound_and_equal a → repair_stores a ≡ []
  unfolding repair_stores
  repair_none h = rw (← h)

  pub repair_copy1 : source_of a ≡ Some Copy0 → false ≡ sound_and_equal a → repair_stores a
      ≡ plan copy_size (copy1 a) (read_from (source_of a) a)
  unfolding repair_stores other_stores
  repair_copy1 e h = rw (← h, e)

  pub repair_copy0 : source_of a ≡ Some Copy1 → repair_stores a ≡ plan 0 (copy0 a) (read_from (source_of a) a)
  unfolding repair_stores other_stores sound_and_equal
  repair_copy0 e = rw (copy0_unsound a e, e)
