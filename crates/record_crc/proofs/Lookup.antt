-- The table's rule, shown once for all of it: a test that is computed over the entries, the law that turns the test
-- into the rule at each of them, and why one lookup is eight steps. Assumes nothing.
use mathlib.Core.Path.{◌≡◌, sym, ap, ◌∙◌}
use mathlib.Core.Bool.{Bool, true, ◌&&◌}
use mathlib.Core.List.{List, [], ◌∷◌}
use Prim.Native.Nat.{ℕ, zero, suc, ◌+◌, ◌/◌, ◌%◌, ◌<◌}
use native.Mathlib.Nat.{zero-add, add-zero, add-suc, suc-add, le_of_suc-le-suc, not-suc-le-zero}
use native.Mathlib.Omega.{arith}
use borrow.Author.Tests.{eqb-true}
use lib.Bits.{bit_xor}
use lib.Dec.{eqb}
use lib.ListN.{length, get_or}
use Rattle.fields.proofs.Tests.{both}
use Rattle.record_crc.specs.Crc.{steps, with_byte}
use Rattle.record_crc.specs.Table.{TableRight}
use Rattle.record_crc.proofs.Division.{steps_apart}

-- the test: each entry is eight steps from its place, the first place being i
abbrev pub entries_right : ℕ → List ℕ → Bool
entries_right i [] = true
entries_right i (x ∷ xs) = eqb x (steps 8 i) && entries_right (suc i) xs

tested : (xs : List ℕ) (i : ℕ) → entries_right i xs ≡ true → (k : ℕ) → k < length xs → get_or xs k 0 ≡ steps 8 (i + k)
tested [] i e k h = absurd (not-suc-le-zero h)
tested (x ∷ xs) i e zero h =
    eqb-true x (steps 8 i) (both (eqb x (steps 8 i)) (entries_right (suc i) xs) e).0 ∙ ap (steps 8) (sym (add-zero i))
tested (x ∷ xs) i e (suc k) h =
    tested xs (suc i) (both (eqb x (steps 8 i)) (entries_right (suc i) xs) e).1 k (le_of_suc-le-suc h)
    ∙ ap (steps 8) (suc-add i k ∙ sym (add-suc i k))

-- the law that turns the test into the rule
pub table_right : (t : List ℕ) → length t ≡ 256 → entries_right 0 t ≡ true → TableRight t
table_right t sized e = record { at = λ b h. tested t 0 e b (omega arith) ∙ ap (steps 8) (zero-add b) }

-- one lookup is eight steps
pub lookup : (t : List ℕ) → TableRight t → (r b : ℕ) → with_byte r b ≡ bit_xor (get_or t (bit_xor r b % 256) 0) (bit_xor r b / 256)
unfolding with_byte
lookup t right r b =
    steps_apart 8 (bit_xor r b)
    ∙ ap (λ (x : ℕ). bit_xor x (bit_xor r b / 256)) (sym (right.at (bit_xor r b % 256) (omega arith)))
