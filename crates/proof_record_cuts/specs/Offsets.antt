-- The rules on the lists of stores (R22, R24, R25), in the product's own definitions: where each store lies, that it is
-- one word, and how many there are. a is the bytes of an area, c those of a copy, r and new those of a record. Assumes
-- nothing.
use Rattle.std.specs.Prelude.{ℕ, ◌+◌, ◌*◌, ◌/◌, ◌%◌, ◌^◌, ◌≤◌, ◌<◌, ◌≡◌, ◌⊎◌, true, List, length, Option, Some, None}
use Rattle.fields.specs.Number.{Bytes}
use Rattle.record_layout.specs.Layout.{copy_size}
use Rattle.record_layout.specs.Rules.{sound}
use Rattle.record_copies.specs.Copies.{source_of, record_read}
use Rattle.record_copies.specs.declared.Source.{Source}
use Rattle.record_copies.specs.declared.Source.TheVariants.{Copy0, Copy1}
use Rattle.record_stores.specs.Stores.{Store, store_numbers, plan}
use Rattle.proof_format_cuts.specs.Area.{Each}
use Rattle.record_store_lists.specs.ChangeStores.{change_stores, repair_stores}

-- a multiple of 4 inside the range of a record of n bytes in the copy at base (R25)
pub record StoreWithin (base n : ℕ) (s : Store) : Type 0 where
  pub aligned : s.0 % 4 ≡ 0
  pub low : base ≤ s.0
  pub high : s.0 + 4 ≤ base + n

-- in one of the two copies
abbrev pub InEither : ℕ → Store → Type 0
InEither n s = StoreWithin 0 n s ⊎ StoreWithin copy_size n s

-- its word has no more than 32 bits (R22)
abbrev pub InWord : Store → Type 0
InWord s = s.1 < 2 ^ 32

-- where the other copy stands than the one that is read (R27). Where none is read there is no store
abbrev pub other_at : Option Source → ℕ
other_at (Some Copy0) = copy_size
other_at (Some Copy1) = 0
other_at None = 0

-- every list fits a slice of the least length (R24)
pub record StoreRules : Type 0 where
  pub plan_placed : (base : ℕ) (c r : List ℕ) → base % 4 ≡ 0 → 8 ≤ length r → 4 * (length r / 4) ≡ length r
      → Each (StoreWithin base (length r)) (plan base c r)
  pub plan_count : (base : ℕ) (c r : List ℕ) → 8 ≤ length r → length (plan base c r) ≤ length r / 4 + 1
  pub change_placed : (a new : List ℕ) → sound new ≡ true → Each (InEither (length new)) (change_stores a new)
  pub change_count : (a new : List ℕ) → sound new ≡ true → 2 * length (change_stores a new) ≤ store_numbers
  pub change_words : (a new : List ℕ) → Bytes new → Each InWord (change_stores a new)
  pub repair_placed : (a : List ℕ) → Each (StoreWithin (other_at (source_of a)) (length (record_read a))) (repair_stores a)
  pub repair_count : (a : List ℕ) → 2 * length (repair_stores a) ≤ store_numbers
  pub repair_words : (a : List ℕ) → Bytes a → Each InWord (repair_stores a)
