-- The set of committed images, image by image (S8, S9, N24, N27): what the bits and the count of ones in specs/Set.antt
-- mean (`set_laws`, proofs/SetLaws.antt). Assumes nothing.
use Rattle.std.specs.Prelude.{ℕ, zero, suc, ◌+◌, ◌/◌, ◌%◌, ◌^◌, ◌≤◌, ◌<◌, ◌≡◌, Bool, false, cond, ◌||◌, List, eqb}
use Rattle.record_layout.specs.Layout.{image_count}
use Rattle.record_layout.specs.Every.{below}
use Rattle.update_committed_set.specs.Set.{set_bits, joined, missing}

-- image i is in the set
unfoldable pub in_set : (set i : ℕ) → Bool
in_set set i = eqb (set / 2 ^ i % 2) 1

-- every one of n images is in the set (S9)
unfoldable pub every_in : (n set : ℕ) → Bool
every_in n set = below n (in_set set)

-- how many of n images are not
unfoldable pub absent : (n set : ℕ) → ℕ
absent zero set = 0
absent (suc n) set = absent n set + cond (in_set set n) 0 1

-- no image at or past n is in the set
abbrev pub NoneFrom : (n set : ℕ) → Type 0
NoneFrom n set = (j : ℕ) → n ≤ j → in_set set j ≡ false

--     joins        Commit adds its image and no other
--     lacks        the count that 27 tells is that of the images which are not in the set
--     whole        it is 0 exactly if every image is in the set
--     low, high    the test of 24: a set is below 2 to the power of n exactly if it has no bit at or past n
pub record SetLaws : Type 0 where
  pub joins : (i j set : ℕ) → in_set (joined i set) j ≡ (eqb i j || in_set set j)
  pub lacks : (set : ℕ) (r : List ℕ) → image_count r ≤ set_bits → set < 2 ^ image_count r → missing set r ≡ absent (image_count r) set
  pub whole : (n set : ℕ) → eqb (absent n set) 0 ≡ every_in n set
  pub low : (n set : ℕ) → set < 2 ^ n → NoneFrom n set
  pub high : (n set : ℕ) → NoneFrom n set → set < 2 ^ n
