-- When a Staging session's bank and set fit a record. Assumes nothing.
use mathlib.Core.Path.{◌≡◌, sym, ◌∙◌}
use mathlib.Core.Bool.{true, ◌&&◌}
use mathlib.Core.Logic.{⊎_elim}
use mathlib.Core.List.{List}
use Prim.Native.Nat.{ℕ, ◌+◌, ◌*◌, ◌^◌, ◌≤◌, ◌<◌}
use native.Mathlib.Nat.{lt_of_lt_of_le, pow-succ'}
use native.Mathlib.Omega.{arith}
use borrow.Author.Tests.{eqb-true, ltb-true, eq-eqb, le-leb, lt-leb, lt-ltb, le-ltb}
use lib.Count.{count_leading_zeros, leading_length}
use lib.Dec.{eqb, leb, ltb}
use lib.Pow.{pow_mono}
use Rattle.fields.proofs.Tests.{both, le_or_lt}
use Rattle.record_layout.specs.Layout.{state, image_count}
use Rattle.record_layout.specs.Rules.{invalid}
use Rattle.update_changes.specs.NewRecord.{update_bank_of}
use Rattle.update_committed_set.specs.Set.{set_bits, staged_fits}

-- a number of `width` bits is below 2 to the power of n exactly if enough of its bits stand above its highest one
pub above_highest : (width n set : ℕ) → set < 2 ^ width → leb width (n + count_leading_zeros width set) ≡ ltb set (2 ^ n)
above_highest width n set h =
    let z = leading_length width set h in
    let m = z.0 in
    ⊎_elim
    (λ (few : m ≤ n).
    le-leb width (n + count_leading_zeros width set) (omega (arith, z.1, few)) ∙ sym (lt-ltb set (2 ^ n) (lt_of_lt_of_le z.2 (pow_mono few))))
    (λ (many : n < m).
    let top : 2 * 2 ^ n ≤ 2 ^ m = rw (← pow-succ' 2 n) (pow_mono many) in
    lt-leb width (n + count_leading_zeros width set) (omega (arith, z.1, many)) ∙ sym (le-ltb set (2 ^ n) (omega (arith, top, z.3))))
    (le_or_lt m n)

-- 24, where bank and state are right
pub set_decides : (bank set k : ℕ) (r : List ℕ) → bank ≡ update_bank_of r → state r bank ≡ 255 → k ≡ image_count r → set < 2 ^ set_bits
    → leb set_bits (k + count_leading_zeros set_bits set) ≡ staged_fits bank set r
unfolding staged_fits
set_decides bank set k r b s i h = rw (above_highest set_bits k set h, eq-eqb bank (update_bank_of r) b, eq-eqb (state r bank) 255 s, i)

-- what fits
pub fit_parts : (bank set : ℕ) (r : List ℕ) → staged_fits bank set r ≡ true
    → (bank ≡ update_bank_of r) × (state r bank ≡ invalid) × (set < 2 ^ image_count r)
unfolding staged_fits
fit_parts bank set r e =
    let p = both (eqb bank (update_bank_of r)) (eqb (state r bank) invalid && ltb set (2 ^ image_count r)) e in
    let q = both (eqb (state r bank) invalid) (ltb set (2 ^ image_count r)) p.1 in
    (eqb-true bank (update_bank_of r) p.0, eqb-true (state r bank) invalid q.0, ltb-true set (2 ^ image_count r) q.1)

pub set_below : (bank set : ℕ) (r : List ℕ) → staged_fits bank set r ≡ true → set < 2 ^ image_count r
set_below bank set r e = (fit_parts bank set r e).2
