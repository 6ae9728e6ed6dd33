-- The tests that look at an area and a store slice (N20 to N23): when each finds a fault, and the refusal. Each entry
-- lists those that it makes, in the order 20, 23, 21, 22 (N110). a is the bytes of the area. Assumes nothing.
use Rattle.std.specs.Prelude.{ℕ, not, ◌||◌, List, [], ◌∷◌, ◌++◌, eqb, ltb, length}
use Rattle.refusals.specs.declared.Refusal.TheVariants.{AreaLength, StoreSlice, NoSoundCopy, NotSoundAndEqual}
use Rattle.record_layout.specs.Layout.{area_size, copy0, copy1}
use Rattle.record_layout.specs.Rules.{sound_copy}
use Rattle.record_copies.specs.Copies.{sound_and_equal}
use Rattle.record_stores.specs.Stores.{store_numbers}
use Rattle.refusal_order.specs.Decide.{Test}

-- N20: the area's length
abbrev pub length_test : (a : List ℕ) → Test
length_test a = (not (eqb (length a) area_size), AreaLength)

-- N23: the store slice is too short
abbrev pub slice_test : (sliceLength : ℕ) → Test
slice_test sliceLength = (ltb sliceLength store_numbers, StoreSlice)

-- N21: no copy is sound
abbrev pub sound_test : (a : List ℕ) → Test
sound_test a = (not (sound_copy (copy0 a) || sound_copy (copy1 a)), NoSoundCopy)

-- N22: the copies aren't both sound and equal
abbrev pub equal_test : (a : List ℕ) → Test
equal_test a = (not (sound_and_equal a), NotSoundAndEqual)

-- what is tested before a record is read: by start-up, the report and the writer of a directory
unfoldable pub read_tests : (a : List ℕ) → List Test
read_tests a = length_test a ∷ sound_test a ∷ []

-- what repair tests: it needs one sound copy
unfoldable pub repair_tests : (a : List ℕ) (sliceLength : ℕ) → List Test
repair_tests a sliceLength = length_test a ∷ slice_test sliceLength ∷ sound_test a ∷ []

-- what every call tests: it needs two sound and equal ones
unfoldable pub area_tests : (a : List ℕ) (sliceLength : ℕ) → List Test
area_tests a sliceLength = repair_tests a sliceLength ++ (equal_test a ∷ [])
