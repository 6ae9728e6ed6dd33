-- What reading a list gives, said without the walk: `reading` is proved to keep these laws (proofs/Whole.antt). Names
-- as in specs/Reading.antt. Assumes nothing.
use Rattle.std.specs.Prelude.{ℕ, ◌+◌, ◌^◌, ◌%◌, ◌≤◌, ◌<◌, List, [], ◌∷◌, ◌⊎◌, ◌≡◌, length, get_or}
use Rattle.refusals.specs.declared.Refusal.{Refusal}
use Rattle.refusals.specs.declared.Refusal.TheVariants.{WindowEnd, DescriptorCount, DescriptorAddress, BlockOutside, TotalLength}
use Rattle.gather_descriptors.specs.Reading.{refused, whole, reading, length_of, address_of, descriptor_limit, total_limit}
use Rattle.gather_descriptors.specs.Scratch.{lengths}

-- n bytes at the address a lie in the window, or not all of them (G8)
abbrev pub Inside : List ℕ → ℕ → ℕ → ℕ → Type 0
Inside w B a n = (B ≤ a) × (a + n ≤ B + length w)

abbrev pub Outside : List ℕ → ℕ → ℕ → ℕ → Type 0
Outside w B a n = (a < B) ⊎ (B + length w < a + n)

-- the descriptor at a leads to b: behind a data block the next stands 16 bytes on, a jump goes to its Address (G3, G4,
-- G6)
pub data Link (w : List ℕ) (B a b : ℕ) : Type 0 where
  past_block : 0 < length_of w B a → b ≡ a + 16 → Link w B a b
  by_jump : length_of w B a ≡ 0 → 0 < address_of w B a → b ≡ address_of w B a → Link w B a b

-- the descriptors from a on, each leading to the next and the last of them to b. So none of them is the end
pub data Links (w : List ℕ) (B : ℕ) : ℕ → List ℕ → ℕ → Type 0 where
  none : {a : ℕ} → Links w B a [] a
  more : {a b c : ℕ} {ds : List ℕ} → Link w B a c → Links w B c ds b → Links w B a (a ∷ ds) b

-- the descriptors from a on up to the end (G5)
pub data Chain (w : List ℕ) (B : ℕ) : ℕ → List ℕ → Type 0 where
  link : {a b : ℕ} {ds : List ℕ} → Link w B a b → Chain w B b ds → Chain w B a (a ∷ ds)
  end : {a : ℕ} → length_of w B a ≡ 0 → address_of w B a ≡ 0 → Chain w B a (a ∷ [])

-- no address and no block of the descriptors ds is at fault
pub record Placed (w : List ℕ) (B : ℕ) (ds : List ℕ) : Type 0 where
  -- where descriptors stand (G7)
  pub aligned : (i : ℕ) → i < length ds → get_or ds i 0 % 8 ≡ 0
  pub inside : (i : ℕ) → i < length ds → Inside w B (get_or ds i 0) 16
  -- where blocks lie (G8)
  pub blocks : (i : ℕ) → i < length ds → 0 < length_of w B (get_or ds i 0)
      → Inside w B (address_of w B (get_or ds i 0)) (length_of w B (get_or ds i 0))

-- a faultless list: none of 1 to 5
pub record Faultless (w : List ℕ) (B first : ℕ) (ds : List ℕ) : Type 0 where
  pub window : B + length w ≤ 2 ^ 64
  pub chain : Chain w B first ds
  pub placed : Placed w B ds
  -- how many descriptors there are (G9)
  pub count : length ds ≤ descriptor_limit
  -- what their lengths add up to (G10)
  pub total : lengths w B ds ≤ total_limit

-- a faultless beginning of a list: the descriptors ds, none of them the end, and the address of the one that comes next
pub record Beginning (w : List ℕ) (B first : ℕ) (ds : List ℕ) (next : ℕ) : Type 0 where
  pub window : B + length w ≤ 2 ^ 64
  pub links : Links w B first ds next
  pub placed : Placed w B ds
  pub count : length ds ≤ descriptor_limit
  pub total : lengths w B ds ≤ total_limit

-- the first fault of the descriptor at a, behind `read` others whose lengths add up to total: count, address, block,
-- total (N108)
pub data Fault (w : List ℕ) (B read total a : ℕ) : Refusal → Type 0 where
  -- N2: a 257th descriptor
  too_many : read ≡ descriptor_limit → Fault w B read total a DescriptorCount
  -- N3: its address
  unaligned : read < descriptor_limit → 0 < a % 8 → Fault w B read total a DescriptorAddress
  not_inside : read < descriptor_limit → Outside w B a 16 → Fault w B read total a DescriptorAddress
  -- N4: its block
  block_outside : read < descriptor_limit → a % 8 ≡ 0 → Inside w B a 16 → 0 < length_of w B a
      → Outside w B (address_of w B a) (length_of w B a) → Fault w B read total a BlockOutside
  -- N5: the total
  total_passed : read < descriptor_limit → a % 8 ≡ 0 → Inside w B a 16 → 0 < length_of w B a
      → Inside w B (address_of w B a) (length_of w B a) → total_limit < total + length_of w B a → Fault w B read total a TotalLength

-- the list's first fault: the window's end (N1); or a faultless beginning of the list and the fault of the descriptor
-- behind it (N108)
pub data FirstFault (w : List ℕ) (B first : ℕ) : Refusal → Type 0 where
  past_end : 2 ^ 64 < B + length w → FirstFault w B first WindowEnd
  behind : {n : Refusal} (ds : List ℕ) (next : ℕ) → Beginning w B first ds next
      → Fault w B (length ds) (lengths w B ds) next n → FirstFault w B first n

-- a list that comes back to one of its descriptors, the one in place i, with no address and no block at fault
pub record ComesBack (w : List ℕ) (B first : ℕ) : Type 0 where
  pub window : B + length w ≤ 2 ^ 64
  pub descriptors : List ℕ
  pub i : ℕ
  pub among : i < length descriptors
  pub links : Links w B first descriptors (get_or descriptors i 0)
  pub placed : Placed w B descriptors

-- the laws of reading
pub record ReadingLaws (w : List ℕ) (B first : ℕ) : Type 0 where
  -- a list is read whole exactly if it is faultless, and the total is what its lengths add up to
  pub whole_only : (t : ℕ) (ds : List ℕ) → reading w B first ≡ whole t ds → Faultless w B first ds × (t ≡ lengths w B ds)
  pub whole_there : (ds : List ℕ) → Faultless w B first ds → reading w B first ≡ whole (lengths w B ds) ds
  -- each of 1 to 5 is given exactly if it is the first fault
  pub refused_only : (n : Refusal) → reading w B first ≡ refused n → FirstFault w B first n
  pub refused_there : (n : Refusal) → FirstFault w B first n → reading w B first ≡ refused n
  -- G17; which of the two is for `refused_only` to say
  pub loop : ComesBack w B first → (reading w B first ≡ refused DescriptorCount) ⊎ (reading w B first ≡ refused TotalLength)
