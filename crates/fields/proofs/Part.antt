-- Parts of a list: how long one is, what stands behind it, a part of a part. Assumes nothing.
use mathlib.Core.Path.{◌≡◌, sym, ◌∙◌}
use mathlib.Core.List.{List, [], ◌∷◌, ◌++◌}
use Prim.Native.Nat.{ℕ, zero, suc, ◌+◌, ◌-◌, ◌≤◌}
use native.Mathlib.Omega.{arith}
use lib.ListN.{length, take, drop, length-drop, take-append-drop}
use lib.Seq.{length-take-le, take-nil, drop-drop, take-take}
use Rattle.fields.specs.Part.{part}

pub part_length : (s : List ℕ) (a e : ℕ) → e ≤ length s → length (part s a e) ≡ e - a
part_length s a e h = length-take-le (e - a) (drop a s) (rw length-drop (omega arith))

-- a part, and the rest behind it
pub part_then : (s : List ℕ) (a e : ℕ) → a ≤ e → drop a s ≡ part s a e ++ drop e s
part_then s a e h =
    let z : a + (e - a) ≡ e = omega arith in
    sym (take-append-drop (e - a) (drop a s)) ∙ rw (drop-drop (e - a) a s, z)

drop_take : (m n : ℕ) (l : List ℕ) → m ≤ n → drop m (take n l) ≡ take (n - m) (drop m l)
drop_take zero n l h = let z : n - 0 ≡ n = omega arith in rw z
drop_take (suc m) zero l h = absurd (omega arith)
drop_take (suc m) (suc n) [] h = sym (take-nil (suc n - suc m))
drop_take (suc m) (suc n) (x ∷ l) h =
    let z : suc n - suc m ≡ n - m = omega arith in
    rw z (drop_take m n l (omega arith))

-- a part of the part from a to e
pub part_part : (s : List ℕ) (a e m n : ℕ) → m ≤ n → a + n ≤ e → part (part s a e) m n ≡ part s (a + m) (a + n)
part_part s a e m n h k =
    let z : a + n - (a + m) ≡ n - m = omega arith in
    rw (drop_take m (e - a) (drop a s) (omega arith), take-take (n - m) (e - a - m) (drop m (drop a s)) (omega arith), drop-drop m a s, z)
