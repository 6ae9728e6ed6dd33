-- What a sound record is known by. Assumes nothing.
use mathlib.Core.Path.{◌≡◌, refl, sym, ap, ◌∙◌}
use mathlib.Core.Bool.{Bool, true, false, cond, not, ◌&&◌, and_assoc, and-false}
use mathlib.Core.List.{List, [], ◌∷◌}
use Prim.Native.Nat.{ℕ, zero, suc, ◌≤◌, ◌<◌}
use borrow.Author.Tests.{eqb-true, leb-true, ltb-true}
use lib.Dec.{eqb, leb, ltb}
use lib.ListN.{length, take, drop}
use Rattle.fields.proofs.Tests.{no_true, both}
use Rattle.record_layout.specs.Every.{below, distinct}
use Rattle.record_layout.specs.Layout.{header_size, image_limit, bank_limit, crc, version, active, previous, size, bank_count}
use Rattle.record_layout.specs.Layout.{image_count, record_size, type_guid, accepted}
use Rattle.record_layout.specs.Rules.{version_rule, bank_count_rule, image_count_rule, size_rule, banks_named_rule, accepted_rule}
use Rattle.record_layout.specs.Rules.{type_guids_rule, invalid, valid, accepted_bank, crc_of, crc_rule, rules, each, sound}
use Rattle.record_layout.specs.Sized.{Sized, first_six, last_eight}
use Rattle.record_layout.proofs.Below.{below_each}
use Rattle.record_layout.proofs.Sizes.{header_in}

-- tests in two parts
pub each_split : (r : List ℕ) (n : ℕ) (tests : List (List ℕ → Bool)) → (each (take n tests) r && each (drop n tests) r) ≡ each tests r
each_split r zero tests = refl
each_split r (suc n) [] = refl
each_split r (suc n) (t ∷ ts) =
    and_assoc (t r) (each (take n ts) r) (each (drop n ts) r) ∙ ap (λ (b : Bool). t r && b) (each_split r n ts)

pub sound_split : (r : List ℕ) → (first_six r && last_eight r) ≡ sound r
unfolding first_six last_eight sound
sound_split r = each_split r 6 rules

-- each test by itself
abbrev pub All : List (List ℕ → Bool) → List ℕ → Type 0
All [] r = Unit {0}
All (t ∷ ts) r = (t r ≡ true) × All ts r

pub all_of : (tests : List (List ℕ → Bool)) (r : List ℕ) → each tests r ≡ true → All tests r
all_of [] r e = tt
all_of (t ∷ ts) r e = let p = both (t r) (each ts r) e in (p.0, all_of ts r p.1)

-- rules 2 to 6 give the length
pub sized_of : (r : List ℕ) → first_six r ≡ true → Sized r (bank_count r) (image_count r)
unfolding first_six bank_count_rule image_count_rule size_rule
sized_of r e =
    let p : All (take 6 rules) r = all_of (take 6 rules) r e in
    let banks = both (leb 2 (bank_count r)) (leb (bank_count r) bank_limit) p.1.0 in
    let images = both (leb 1 (image_count r)) (leb (image_count r) image_limit) p.1.1.0 in
    let long = both (eqb (size r) (record_size (bank_count r) (image_count r))) (eqb (length r) (size r)) p.1.1.1.1.1.0 in
    record {
      banks_is = refl;
      images_is = refl;
      banks_low = leb-true 2 (bank_count r) banks.0;
      banks_high = leb-true (bank_count r) bank_limit banks.1;
      images_low = leb-true 1 (image_count r) images.0;
      images_high = leb-true (image_count r) image_limit images.1;
      long =
          eqb-true (length r) (size r) long.1 ∙ eqb-true (size r) (record_size (bank_count r) (image_count r)) long.0;
    }

pub six_of : (r : List ℕ) → sound r ≡ true → first_six r ≡ true
six_of r e = (both (first_six r) (last_eight r) (sound_split r ∙ e)).0

-- a sound record is as long as its counts say, has its header, its version is 2, its size is its length, and it names
-- banks that it has
pub sound_sized : (r : List ℕ) → sound r ≡ true → Sized r (bank_count r) (image_count r)
sound_sized r e = sized_of r (six_of r e)

pub sound_long : (r : List ℕ) → sound r ≡ true → header_size ≤ length r
sound_long r e = header_in r (bank_count r) (image_count r) (sound_sized r e)

pub sound_version : (r : List ℕ) → sound r ≡ true → version r ≡ 2
unfolding sound version_rule
sound_version r e = eqb-true (version r) 2 (all_of rules r e).0

pub sound_size : (r : List ℕ) → sound r ≡ true → length r ≡ size r
unfolding sound size_rule
sound_size r e =
    eqb-true (length r) (size r)
    (both (eqb (size r) (record_size (bank_count r) (image_count r))) (eqb (length r) (size r)) (all_of rules r e).1.1.1.1.1.0).1

pub named_of : (r : List ℕ) → banks_named_rule r ≡ true → (active r < bank_count r) × (previous r < bank_count r)
unfolding banks_named_rule
named_of r e =
    let p = both (ltb (active r) (bank_count r)) (ltb (previous r) (bank_count r)) e in
    (ltb-true (active r) (bank_count r) p.0, ltb-true (previous r) (bank_count r) p.1)

pub sound_named : (r : List ℕ) → sound r ≡ true → (active r < bank_count r) × (previous r < bank_count r)
unfolding sound
sound_named r e = named_of r (all_of rules r e).1.1.1.1.1.1.1.1.0

-- the accepted field of an image in a bank is 0 or 1, and type GUIDs are all different
pub sound_accepted : (r : List ℕ) (i b : ℕ) → sound r ≡ true → i < image_count r → b < bank_count r → accepted r i b ≤ 1
unfolding sound accepted_rule
sound_accepted r i b e p q =
    leb-true (accepted r i b) 1
    (below_each (λ (k : ℕ). leb (accepted r i k) 1) (bank_count r) b
    (below_each (λ (j : ℕ). below (bank_count r) (λ (k : ℕ). leb (accepted r j k) 1)) (image_count r) i
    (all_of rules r e).1.1.1.1.1.1.1.1.1.0 p) q)

pub sound_different : (r : List ℕ) → sound r ≡ true → distinct (image_count r) (type_guid r) ≡ true
unfolding sound type_guids_rule
sound_different r e = (all_of rules r e).1.1.1.1.1.1.1.1.1.1.0

-- its CRC is the one that it has
pub sound_crc : (r : List ℕ) → sound r ≡ true → crc r ≡ crc_of r
unfolding sound crc_rule
sound_crc r e = eqb-true (crc r) (crc_of r) (all_of rules r e).1.1.1.1.1.1.1.1.1.1.1.1.1.0

-- rule 13 for one bank: its state, and whether all its images are accepted
unfoldable pub bank_fits_words : ℕ → Bool → Bool
bank_fits_words s all = cond (eqb s accepted_bank) all (cond (eqb s valid) (not all) true)

-- a bank that is what its images make of it fits, and is not 255
pub fits_ended : (all : Bool) → bank_fits_words (cond all accepted_bank valid) all ≡ true
unfolding bank_fits_words
fits_ended true = refl
fits_ended false = refl

pub live_ended : (all : Bool) → eqb (cond all accepted_bank valid) invalid ≡ false
live_ended true = refl
live_ended false = refl

-- one test that fails
abbrev pub test_at : ℕ → List (List ℕ → Bool) → List ℕ → Bool
test_at n [] r = true
test_at zero (t ∷ ts) r = t r
test_at (suc n) (t ∷ ts) r = test_at n ts r

pub each_stop : (n : ℕ) (tests : List (List ℕ → Bool)) (r : List ℕ) → test_at n tests r ≡ false → each tests r ≡ false
each_stop zero [] r e = absurd (no_true (sym e))
each_stop (suc n) [] r e = absurd (no_true (sym e))
each_stop zero (t ∷ ts) r e = rw e
each_stop (suc n) (t ∷ ts) r e = rw (each_stop n ts r e, and-false)
