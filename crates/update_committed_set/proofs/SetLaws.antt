-- The set of committed images, image by image (specs/SetLaws.antt). Assumes nothing.
use mathlib.Core.Path.{◌≡◌, refl, sym, ap, ◌∙◌}
use mathlib.Core.Bool.{Bool, true, false, cond, ◌&&◌, ◌||◌}
use mathlib.Core.Logic.{◌⊎◌, inl, inr, ⊎_elim}
use mathlib.Core.List.{List}
use Prim.Native.Nat.{ℕ, zero, suc, ◌+◌, ◌-◌, ◌/◌, ◌%◌, ◌^◌, ◌≤◌, ◌<◌}
use native.Mathlib.Nat.{add_assoc, add-zero, add-suc, mod-lt, div-eq_of_lt, div-lt_iff_lt-mul, lt-div-mul-add, lt_of_lt_of_le, one-mul, pow-suc, pow-succ'}
use native.Mathlib.Numerals.{one-add}
use native.Mathlib.Omega.{arith}
use borrow.Author.Tests.{eqb-false, eq-eqb, ne_eqb}
use lib.Dec.{eqb}
use lib.Bits.{bit_or, or_shr, or_mod, or_lt, shifted_even}
use lib.Count.{ones_in}
use lib.Pow.{pow-lt, pow_mono, pow_pos, pow-add, shl-shr, shr-shr}
use Rattle.fields.proofs.Tests.{le_or_lt}
use Rattle.record_layout.specs.Layout.{image_count}
use Rattle.record_layout.specs.Every.{below}
use Rattle.update_committed_set.specs.Set.{set_bits, joined, missing}
use Rattle.update_committed_set.specs.SetLaws.{in_set, every_in, absent, NoneFrom, SetLaws}
use Rattle.update_committed_set.proofs.Bits.{ones_in_lem}

-- a bit is 0 or 1
bit : (n : ℕ) → (n % 2 ≡ 0) ⊎ (n % 2 ≡ 1)
bit n =
    let h : n % 2 < 2 = mod-lt n (omega arith) in
    ⊎_elim (λ one. inr (omega arith)) (λ none. inl (omega arith)) (le_or_lt 1 (n % 2))

-- the count of ones, from the highest bit on
ones_none : (s : ℕ) → ones_in 0 s ≡ 0
unfolding ones_in
ones_none s = refl

ones_top : (d s : ℕ) → ones_in (suc d) s ≡ ones_in d s + s / 2 ^ d % 2
unfolding ones_in
ones_top zero s = omega arith
ones_top (suc d) s =
    let z : s / 2 / 2 ^ d ≡ s / 2 ^ suc d = shr-shr s 1 d ∙ ap (λ (k : ℕ). s / 2 ^ k) (one-add d) in
    ap (λ (x : ℕ). s % 2 + x) (ones_top d (s / 2) ∙ ap (λ (x : ℕ). ones_in d (s / 2) + x % 2) z)
    ∙ sym (add_assoc (s % 2) (ones_in d (s / 2)) (s / 2 ^ suc d % 2))

-- one image more, in the set or not
keep : (b : Bool) → (b && true) ≡ b
keep true = refl
keep false = refl

lose : (b : Bool) → (b && false) ≡ false
lose true = refl
lose false = refl

absent_in : (n s : ℕ) → s / 2 ^ n % 2 ≡ 1 → absent (suc n) s ≡ absent n s
unfolding absent in_set
absent_in n s o = rw o (add-zero (absent n s))

absent_out : (n s : ℕ) → s / 2 ^ n % 2 ≡ 0 → absent (suc n) s ≡ absent n s + 1
unfolding absent in_set
absent_out n s z = rw z

every_in_lem : (n s : ℕ) → s / 2 ^ n % 2 ≡ 1 → every_in (suc n) s ≡ every_in n s
unfolding every_in below in_set
every_in_lem n s o = rw o (keep (below n (in_set s)))

every_out : (n s : ℕ) → s / 2 ^ n % 2 ≡ 0 → every_in (suc n) s ≡ false
unfolding every_in below in_set
every_out n s z = rw z (lose (below n (in_set s)))

none_yet : (s : ℕ) → (absent 0 s ≡ 0) × (every_in 0 s ≡ true)
unfolding absent every_in below
none_yet s = (refl, refl)

-- each image is in the set or missing
pub counted : (n s : ℕ) → ones_in n s + absent n s ≡ n
counted zero s = omega (arith, ones_none s, (none_yet s).0)
counted (suc n) s =
    ⊎_elim
    (λ (z : s / 2 ^ n % 2 ≡ 0). omega (arith, z, counted n s, ones_top n s, absent_out n s z))
    (λ (o : s / 2 ^ n % 2 ≡ 1). omega (arith, o, counted n s, ones_top n s, absent_in n s o))
    (bit (s / 2 ^ n))

-- none is missing exactly if every one is in the set
pub none_absent : (n s : ℕ) → eqb (absent n s) 0 ≡ every_in n s
none_absent zero s = rw ((none_yet s).0, (none_yet s).1)
none_absent (suc n) s =
    ⊎_elim
    (λ (z : s / 2 ^ n % 2 ≡ 0). rw (absent_out n s z, every_out n s z) (ne_eqb (absent n s + 1) 0 (λ e. absurd (omega arith))))
    (λ (o : s / 2 ^ n % 2 ≡ 1). rw (absent_in n s o, every_in_lem n s o) (none_absent n s))
    (bit (s / 2 ^ n))

-- the count that 27 tells
pub missing_law : (set : ℕ) (r : List ℕ) → image_count r ≤ set_bits → set < 2 ^ image_count r → missing set r ≡ absent (image_count r) set
unfolding missing
missing_law set r l h =
    rw (ones_in_lem set_bits set (lt_of_lt_of_le h (pow_mono l)), ← ones_in_lem (image_count r) set h) (omega (arith, counted (image_count r) set))

-- the bits of a power of 2
power_bit : (i j : ℕ) → 2 ^ i / 2 ^ j % 2 ≡ cond (eqb i j) 1 0
power_bit i j =
    ⊎_elim
    (λ le.
    ⊎_elim
    (λ ge.
    let z : i ≡ j = omega arith in
    rw (z, eq-eqb j j refl) (ap (λ (x : ℕ). x % 2) (ap (λ (x : ℕ). x / 2 ^ j) (sym (one-mul (2 ^ j))) ∙ shl-shr 1 j)))
    (λ lt. rw (ne_eqb i j (λ e. absurd (omega arith)), above (i - j - 1) i j (omega arith)))
    (le_or_lt i j))
    (λ lt. rw (ne_eqb i j (λ e. absurd (omega arith)), div-eq_of_lt (pow-lt lt)))
    (le_or_lt j i)
  where
    above : (k m n : ℕ) → m ≡ suc k + n → 2 ^ m / 2 ^ n % 2 ≡ 0
    above k m n e =
        rw (e, pow-add 2 (suc k) n, shl-shr (2 ^ suc k) n)
        (ap (λ (x : ℕ). x % 2) (sym (one-mul (2 ^ suc k))) ∙ shifted_even 1 k)

or_bits : (x y : ℕ) (b : Bool) → (x ≡ 0) ⊎ (x ≡ 1) → y ≡ cond b 1 0 → eqb (bit_or x y) 1 ≡ (b || eqb x 1)
or_bits x y true (inl z) e = rw (z, e)
or_bits x y true (inr o) e = rw (o, e)
or_bits x y false (inl z) e = rw (z, e)
or_bits x y false (inr o) e = rw (o, e)

-- image i joins the set, and no other does
pub joined_law : (i j set : ℕ) → in_set (joined i set) j ≡ (eqb i j || in_set set j)
unfolding in_set joined
joined_law i j set =
    rw (or_shr set (2 ^ i) j, or_mod (set / 2 ^ j) (2 ^ i / 2 ^ j) 1)
    (or_bits (set / 2 ^ j % 2) (2 ^ i / 2 ^ j % 2) (eqb i j) (bit (set / 2 ^ j)) (power_bit i j))

-- and the set stays below 2 to the power of the images
pub joined_below : (i n set : ℕ) → i < n → set < 2 ^ n → joined i set < 2 ^ n
unfolding joined
joined_below i n set h l = or_lt n set (2 ^ i) l (pow-lt h)

-- a number below a power of 2 has no bit from there on
none_from : (n set : ℕ) → set < 2 ^ n → NoneFrom n set
unfolding in_set
none_from n set h j l = let k : n ≤ j = omega arith in rw (div-eq_of_lt (lt_of_lt_of_le h (pow_mono k)))

-- a number is below some power of 2, and without the bits from n on below that of n
grows : (n : ℕ) → n < 2 ^ n
grows zero = omega arith
grows (suc n) = omega (arith, grows n, pow-suc 2 n)

no_top : (m set : ℕ) → set < 2 ^ suc m → in_set set m ≡ false → set < 2 ^ m
unfolding in_set
no_top m set h e =
    let q : set / 2 ^ m < 2 = (div-lt_iff_lt-mul (pow_pos m)).1 (rw (← pow-succ' 2 m) h) in
    ⊎_elim
    (λ (z : set / 2 ^ m % 2 ≡ 0).
    let none : set / 2 ^ m ≡ 0 = omega (arith, q, z) in
    omega (arith, rw none at (lt-div-mul-add {a = set} (pow_pos m))))
    (λ (o : set / 2 ^ m % 2 ≡ 1). absurd (eqb-false (set / 2 ^ m % 2) 1 e o))
    (bit (set / 2 ^ m))

below_power : (k n set : ℕ) → NoneFrom n set → set < 2 ^ (n + k) → set < 2 ^ n
below_power zero n set p h = rw (← add-zero n) h
below_power (suc k) n set p h = below_power k n set p (no_top (n + k) set (rw (← add-suc n k) h) (p (n + k) (omega arith)))

pub set_laws : SetLaws
set_laws =
    record {
      joins = joined_law;
      lacks = missing_law;
      whole = none_absent;
      low = none_from;
      high = λ n set p. below_power set n set p (lt_of_lt_of_le (grows set) (pow_mono (omega arith)));
    }
