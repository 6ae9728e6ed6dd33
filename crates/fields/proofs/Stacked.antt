-- Lists of any length, one behind another: what stands at a place, and how long those before it are. Assumes nothing.
use mathlib.Core.Path.{◌≡◌, sym, ap, ◌∙◌}
use mathlib.Core.List.{List, ◌++◌, append_assoc, append-nil}
use mathlib.Core.Logic.{⊎_elim}
use Prim.Native.Nat.{ℕ, zero, suc, ◌+◌, ◌-◌, ◌≤◌, ◌<◌}
use native.Mathlib.Numerals.{add-one}
use native.Mathlib.Omega.{arith}
use lib.ListN.{length, take, drop, length-append}
use lib.Seq.{drop-append-le, drop-append_seam, drop-length, drop_at, drop-drop, take_at}
use Rattle.fields.specs.Part.{part}
use Rattle.fields.specs.Joined.{joined}
use Rattle.fields.proofs.Tests.{le_or_lt}

-- what stands behind a list that stands at o
pub behind : (s a rest : List ℕ) (o n : ℕ) → drop o s ≡ a ++ rest → length a ≡ n → drop (o + n) s ≡ rest
behind s a rest o n e l = sym (drop-drop n o s) ∙ ap (λ (k : List ℕ). drop n k) e ∙ drop_at a rest n l

-- a list at its place is that part
pub part_at : (s a rest : List ℕ) (o e : ℕ) → drop o s ≡ a ++ rest → o + length a ≡ e → part s o e ≡ a
part_at s a rest o e at l = ap (λ (k : List ℕ). take (e - o) k) at ∙ take_at a rest (e - o) (omega arith)

-- one more of them
pub stacked_next : (k : ℕ) (g : ℕ → List ℕ) → length (joined (k + 1) g) ≡ length (joined k g) + length (g k)
unfolding joined
stacked_next k g = rw add-one (length-append (joined k g) (g k))

pub stacked_rises : (m n : ℕ) (g : ℕ → List ℕ) → m ≤ n → length (joined m g) ≤ length (joined n g)
unfolding joined
stacked_rises m zero g h = let z : m ≡ 0 = omega arith in rw z (omega arith)
stacked_rises m (suc n) g h =
    ⊎_elim
    (λ le. omega (arith, stacked_rises m n g le, length-append (joined n g) (g n)))
    (λ lt.
    let z : m ≡ suc n = omega arith in
    rw z (omega arith))
    (le_or_lt m n)

-- the k-th of them, behind those before it
pub stacked_at : (n k : ℕ) (g : ℕ → List ℕ) → k < n
    → drop (length (joined k g)) (joined n g) ≡ g k ++ drop (length (joined (k + 1) g)) (joined n g)
unfolding joined
stacked_at zero k g lt = absurd (omega arith)
stacked_at (suc n) k g lt =
    let front = joined n g in
    ⊎_elim
    (λ le.
    let z : k ≡ n = omega arith in
    rw (z, add-one, drop-length (front ++ g n), append-nil (g n)) (drop-append_seam front (g n)))
    (λ less.
    drop-append-le (length (joined k g)) front (g n) (stacked_rises k n g (omega arith))
    ∙ rw (stacked_at n k g less, drop-append-le (length (joined (k + 1) g)) front (g n) (stacked_rises (k + 1) n g (omega arith)))
    (append_assoc (g k) (drop (length (joined (k + 1) g)) front) (g n)))
    (le_or_lt n k)
