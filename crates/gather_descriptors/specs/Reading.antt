-- What reading the scattered list from a first descriptor gives (G2 to G11). w is the window's bytes, B the address of
-- the first of them, and a descriptor is named by its own address, d or a. Assumes nothing.
use Rattle.std.specs.Prelude.{ℕ, zero, suc, ◌+◌, cond, List, [], ◌∷◌, leb, eqb, length}
use Rattle.refusals.specs.declared.Refusal.{Refusal}
use Rattle.refusals.specs.declared.Refusal.TheVariants.{WindowEnd, DescriptorCount, DescriptorAddress, BlockOutside, TotalLength}
use Rattle.gather_window.specs.Window.{past_window_end, within, descriptor_fits, number64}

-- a descriptor's Length and Address (G2)
unfoldable pub length_of : List ℕ → ℕ → ℕ → ℕ
length_of w B d = number64 w B d

unfoldable pub address_of : List ℕ → ℕ → ℕ → ℕ
address_of w B d = number64 w B (d + 8)

-- how many descriptors are read at most (G9)
abbrev pub descriptor_limit : ℕ
descriptor_limit = 256

-- how much the lengths may add up to (G10)
abbrev pub total_limit : ℕ
total_limit = 16777216

-- a refusal; or the list read whole: the total, and the address of each descriptor read, in list order
pub data Reading : Type 0 where
  refused : Refusal → Reading
  whole : (total : ℕ) (descriptors : List ℕ) → Reading

-- a reading that begins with the descriptor at d and goes on as the rest does
unfoldable pub with_descriptor : ℕ → Reading → Reading
with_descriptor d (refused n) = refused n
with_descriptor d (whole total ds) = whole total (d ∷ ds)

-- a data block (G3): block (N4), then total (N5). Blocks may share bytes (G11), so nothing else is tested. next reads
-- on with the new total
unfoldable pub data_block : (B N address size total : ℕ) (next : ℕ → Reading) → Reading
data_block B N address size total next =
    cond (within B N address size)
    (cond (leb (total + size) total_limit) (next (total + size)) (refused TotalLength))
    (refused BlockOutside)

-- a jump or the end (G4, G5). next reads on at an address
unfoldable pub jump_or_end : (address total : ℕ) (next : ℕ → Reading) → Reading
jump_or_end address total next = cond (eqb address 0) (whole total []) (next address)

-- the list in turns (G6), each descriptor tested in the order of N108. left is how many descriptors may still be read,
-- a the next one's address, total what the blocks before it add up to
unfoldable pub walk : (left : ℕ) (w : List ℕ) (B a total : ℕ) → Reading
walk zero w B a total = refused DescriptorCount
walk (suc left) w B a total =
    cond (descriptor_fits B (length w) a)
    (with_descriptor a
    (cond (eqb (length_of w B a) 0)
    (jump_or_end (address_of w B a) total (λ next. walk left w B next total))
    (data_block B (length w) (address_of w B a) (length_of w B a) total (walk left w B (a + 16)))))
    (refused DescriptorAddress)

-- the whole list, from the first descriptor's address on; the window first (N1)
unfoldable pub reading : List ℕ → ℕ → ℕ → Reading
reading w B first = cond (past_window_end B (length w)) (refused WindowEnd) (walk descriptor_limit w B first 0)
