-- Laws of the plain division: it is linear over exclusive or, and steps past zeros are a shift. From these two: n steps
-- of a number are n steps of its n lowest bits, exclusive-ored with the others shifted down by n. Assumes nothing.
use mathlib.Core.Path.{◌≡◌, refl, sym, ap, ◌∙◌}
use Prim.Native.Nat.{ℕ, zero, suc, ◌*◌, ◌/◌, ◌%◌, ◌^◌, ◌<◌}
use native.Mathlib.Nat.{mod-lt, div-add-mod', mul-div_cancel, mul-mod_left, pow-suc, mul_assoc, mul-one, zero-mul, zero-lt-suc}
use native.Mathlib.Omega.{arith}
use lib.Arith.{bin_ind}
use lib.Pow.{pow_pos}
use lib.Bits.{bit_xor, xor_shr, xor_mod, xor_comm, xor_zero_r, xor_self, xor_shifted}
use Rattle.record_crc.specs.Crc.{division_step, steps}

two_pos : 0 < 2
two_pos = zero-lt-suc 1

bit_low : (x : ℕ) → x % 2 < 2
bit_low x = mod-lt x two_pos

-- what holds of 0 and of 1 holds of a bit
module _ (P : ℕ → Type 0) (no : P 0) (yes : P 1) where
  bit : (x : ℕ) → x < 2 → P x
  bit zero h = no
  bit (suc zero) h = yes
  bit (suc (suc x)) h = absurd (omega arith)

-- ---- exclusive or may be bracketed in any way
bit_assoc : (x y z : ℕ) → x < 2 → y < 2 → z < 2 → bit_xor (bit_xor x y) z ≡ bit_xor x (bit_xor y z)
bit_assoc x y z hx hy hz =
    bit (λ (x : ℕ). bit_xor (bit_xor x y) z ≡ bit_xor x (bit_xor y z)) refl
    (bit (λ (y : ℕ). bit_xor (bit_xor 1 y) z ≡ bit_xor 1 (bit_xor y z)) refl
    (bit (λ (z : ℕ). bit_xor (bit_xor 1 1) z ≡ bit_xor 1 (bit_xor 1 z)) refl refl z hz) y hy) x hx

by_bits : (a b : ℕ) → a / 2 ≡ b / 2 → a % 2 ≡ b % 2 → a ≡ b
by_bits a b p q = omega arith

xor_assoc : (a b c : ℕ) → bit_xor (bit_xor a b) c ≡ bit_xor a (bit_xor b c)
xor_assoc =
    bin_ind (λ (a : ℕ). (b c : ℕ) → bit_xor (bit_xor a b) c ≡ bit_xor a (bit_xor b c)) (λ b c. refl)
    (λ a ih b c.
    by_bits (bit_xor (bit_xor a b) c) (bit_xor a (bit_xor b c))
    (xor_shr (bit_xor a b) c 1 ∙ ap (λ (x : ℕ). bit_xor x (c / 2)) (xor_shr a b 1) ∙ ih (b / 2) (c / 2)
    ∙ ap (bit_xor (a / 2)) (sym (xor_shr b c 1)) ∙ sym (xor_shr a (bit_xor b c) 1))
    (xor_mod (bit_xor a b) c 1 ∙ ap (λ (x : ℕ). bit_xor x (c % 2)) (xor_mod a b 1)
    ∙ bit_assoc (a % 2) (b % 2) (c % 2) (bit_low a) (bit_low b) (bit_low c)
    ∙ ap (bit_xor (a % 2)) (sym (xor_mod b c 1)) ∙ sym (xor_mod a (bit_xor b c) 1)))

xor_swap : (a b c d : ℕ) → bit_xor (bit_xor a b) (bit_xor c d) ≡ bit_xor (bit_xor a c) (bit_xor b d)
xor_swap a b c d =
    xor_assoc a b (bit_xor c d)
    ∙ ap (bit_xor a) (sym (xor_assoc b c d) ∙ ap (λ (x : ℕ). bit_xor x d) (xor_comm b c) ∙ xor_assoc c b d)
    ∙ sym (xor_assoc a c (bit_xor b d))

-- ---- steps are linear over exclusive or
bit_times : (p x y : ℕ) → x < 2 → y < 2 → bit_xor x y * p ≡ bit_xor (x * p) (y * p)
bit_times p x y hx hy =
    bit (λ (x : ℕ). bit_xor x y * p ≡ bit_xor (x * p) (y * p)) (rw zero-mul)
    (bit (λ (y : ℕ). bit_xor 1 y * p ≡ bit_xor (1 * p) (y * p)) (rw (zero-mul, xor_zero_r (1 * p)))
    (rw (zero-mul, xor_self (1 * p))) y hy) x hx

step_linear : (a b : ℕ) → division_step (bit_xor a b) ≡ bit_xor (division_step a) (division_step b)
unfolding division_step
step_linear a b =
    let ha : a % 2 < 2 = bit_low a in
    let hb : b % 2 < 2 = bit_low b in
    rw (xor_shr a b 1, xor_mod a b 1, bit_times, xor_swap (a / 2) (b / 2))

steps_linear : (n a b : ℕ) → steps n (bit_xor a b) ≡ bit_xor (steps n a) (steps n b)
unfolding steps
steps_linear zero a b = refl
steps_linear (suc n) a b = ap (steps n) (step_linear a b) ∙ steps_linear n (division_step a) (division_step b)

-- ---- n steps past n zeros are a shift
step_shift : (x : ℕ) → division_step (x * 2) ≡ x
unfolding division_step
step_shift x = rw (mul-div_cancel x two_pos, mul-mod_left x 2, xor_zero_r x)

steps_shift : (n x : ℕ) → steps n (x * 2 ^ n) ≡ x
unfolding steps
steps_shift zero x = mul-one x
steps_shift (suc n) x =
    ap (λ (p : ℕ). steps n (division_step p)) (ap (λ (p : ℕ). x * p) (pow-suc 2 n) ∙ sym (mul_assoc x (2 ^ n) 2))
    ∙ ap (steps n) (step_shift (x * 2 ^ n)) ∙ steps_shift n x

-- ---- the law of n steps: those of the n lowest bits, exclusive-ored with the others shifted down by n
pub steps_apart : (n y : ℕ) → steps n y ≡ bit_xor (steps n (y % 2 ^ n)) (y / 2 ^ n)
steps_apart n y =
    ap (steps n) (sym (xor_shifted (y / 2 ^ n) n (y % 2 ^ n) (mod-lt y (pow_pos n)) ∙ div-add-mod' y (2 ^ n)))
    ∙ steps_linear n (y / 2 ^ n * 2 ^ n) (y % 2 ^ n)
    ∙ ap (λ (x : ℕ). bit_xor x (steps n (y % 2 ^ n))) (steps_shift n (y / 2 ^ n))
    ∙ xor_comm (y / 2 ^ n) (steps n (y % 2 ^ n))
