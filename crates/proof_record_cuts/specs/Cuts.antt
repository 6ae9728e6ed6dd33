-- What survives a cut of a change and of a repair, for any sound new record (P2 to P6), in the product's own
-- definitions: the record read of crates/record_copies, the stores of crates/record_store_lists. a is the bytes of an
-- area; old is the record that both copies hold before a change, new the one that it writes; n is how many of the
-- stores listed are done before the cut. Assumes nothing.
use Rattle.std.specs.Prelude.{ℕ, ◌≤◌, ◌≡◌, ◌≢◌, ◌⊎◌, true, List, [], ◌++◌, length, None}
use Rattle.fields.specs.Number.{Bytes}
use Rattle.record_layout.specs.Layout.{area_size, record_of, copy0, copy1}
use Rattle.record_layout.specs.Rules.{sound, sound_copy}
use Rattle.record_copies.specs.Copies.{source_of, record_read, sound_and_equal}
use Rattle.record_store_lists.specs.ChangeStores.{change_stores, repair_stores}
use Rattle.proof_format_cuts.specs.Area.{after_cut}
use Rattle.proof_format_cuts.specs.Format.{over}

-- the record r is read from a
pub record IsRead (a r : List ℕ) : Type 0 where
  pub one_sound : source_of a ≢ None
  pub is : record_read a ≡ r

-- both copies of a are sound and hold the record r
pub record BothHold (a r : List ℕ) : Type 0 where
  pub sound0 : sound_copy (copy0 a) ≡ true
  pub is0 : record_of (copy0 a) ≡ r
  pub sound1 : sound_copy (copy1 a) ≡ true
  pub is1 : record_of (copy1 a) ≡ r

-- the area after a change that is cut after n of its stores, and after a repair that is
abbrev pub changed : List ℕ → List ℕ → ℕ → List ℕ
changed a new n = after_cut a (change_stores a new) n

abbrev pub mended : List ℕ → ℕ → List ℕ
mended a n = after_cut a (repair_stores a) n

-- A change cut after n of its stores
--     either             exactly the old record or exactly the new is read (P4)
--     first, last        the old after no store, the new after all (P5)
--     after_all, area    both copies hold the new record, every other byte as before (R26)
--     later              once the new is read, every later cut reads it too (P6)
--     long, bytes        an area still, so that more may follow
pub record ChangeCut (a old new : List ℕ) (n : ℕ) : Type 0 where
  pub either : IsRead (changed a new n) old ⊎ IsRead (changed a new n) new
  pub first : n ≡ 0 → IsRead (changed a new n) old
  pub last : length (change_stores a new) ≤ n → IsRead (changed a new n) new
  pub after_all : length (change_stores a new) ≤ n → BothHold (changed a new n) new
  pub area : length (change_stores a new) ≤ n → changed a new n ≡ over new (copy0 a) ++ over new (copy1 a)
  pub later : (m : ℕ) → n ≤ m → IsRead (changed a new n) new → IsRead (changed a new m) new
  pub long : length (changed a new n) ≡ area_size
  pub bytes : Bytes (changed a new n)

-- A repair cut after n of its stores: the record read stays, and the rest is as with a change, "new" being here the
-- record read
pub record RepairCut (a : List ℕ) (n : ℕ) : Type 0 where
  pub reads : IsRead (mended a n) (record_read a)
  pub after_all : length (repair_stores a) ≤ n → BothHold (mended a n) (record_read a)
  pub area : length (repair_stores a) ≤ n → mended a n ≡ over (record_read a) (copy0 a) ++ over (record_read a) (copy1 a)
  pub long : length (mended a n) ≡ area_size
  pub bytes : Bytes (mended a n)

-- The theorem at record version 2, one step at a time
--     change         from two sound and equal copies to any sound new record
--     repair         from any area with a sound copy
--     again          the stores of a repair are those of a change to the record read: the copy that it is read from
--                    holds it, and so gets none
--     none           no store where the copies are sound and equal (R27)
--     held, equal    two copies are sound and equal where both hold one record, and only there
pub record RecordCuts : Type 0 where
  pub change : (a new : List ℕ) (n : ℕ) → length a ≡ area_size → Bytes a → sound_and_equal a ≡ true → Bytes new → sound new ≡ true
      → ChangeCut a (record_of (copy0 a)) new n
  pub repair : (a : List ℕ) (n : ℕ) → length a ≡ area_size → Bytes a → source_of a ≢ None → RepairCut a n
  pub again : (a : List ℕ) → source_of a ≢ None → change_stores a (record_read a) ≡ repair_stores a
  pub none : (a : List ℕ) → sound_and_equal a ≡ true → repair_stores a ≡ []
  pub held : (a : List ℕ) → sound_and_equal a ≡ true → BothHold a (record_of (copy0 a))
  pub equal : (a r : List ℕ) → BothHold a r → sound_and_equal a ≡ true
