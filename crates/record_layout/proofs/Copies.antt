-- The record in a copy. Assumes nothing.
use mathlib.Core.Path.{◌≡◌, refl}
use mathlib.Core.Bool.{Bool, true, false, cond}
use mathlib.Core.List.{List, ◌++◌}
use Prim.Native.Nat.{ℕ, ◌+◌, ◌-◌, ◌≤◌}
use native.Mathlib.Omega.{arith}
use borrow.Author.Tests.{leb-true, le-leb}
use lib.Dec.{leb}
use lib.ListN.{length, take, drop, length-take, length-drop, get_or-append}
use lib.Seq.{length-take-le, take-append_seam}
use Rattle.fields.proofs.Number.{le_same}
use Rattle.record_layout.specs.Layout.{area_size, copy_size, copy_at, header_size, size, record_of}
use Rattle.record_layout.specs.Rules.{sound}
use Rattle.record_layout.proofs.Sound.{sound_long, sound_size}

-- it has the header's bytes
pub record_long : (c : List ℕ) → 40 ≤ length c → 40 ≤ length (record_of c)
unfolding record_of
record_long c h = go (leb header_size (size c)) refl
  where
    go : (b : Bool) → leb header_size (size c) ≡ b → 40 ≤ length (take (cond b (size c) header_size) c)
    go true e = rw length-take (omega (arith, leb-true header_size (size c) e))
    go false e = rw length-take (omega arith)

-- and where the copy starts with a sound record it is that record
pub front_length : (r t : List ℕ) → sound r ≡ true
    → cond (leb header_size (size (r ++ t))) (size (r ++ t)) header_size ≡ length r
front_length r t h =
    let long = sound_long r h in
    let s : size (r ++ t) ≡ size r = le_same 4 (r ++ t) r 16 16 (λ k lt. get_or-append r t 0 (16 + k) (omega arith)) in
    rw (s, ← sound_size r h, le-leb header_size (length r) long)

pub front_record : (r t : List ℕ) → sound r ≡ true → record_of (r ++ t) ≡ r
unfolding record_of
front_record r t h = rw (front_length r t h) (take-append_seam r t)

-- the copy at base, as the code takes it
pub copy_is : (a : List ℕ) (base : ℕ) → take (base + copy_size - base) (drop base a) ≡ copy_at base a
copy_is a base = let z : base + copy_size - base ≡ copy_size = omega arith in rw z

-- it is as long as a copy
pub copy_long : (a : List ℕ) (base : ℕ) → length a ≡ area_size → base ≤ copy_size → length (copy_at base a) ≡ copy_size
copy_long a base l h =
    let long : copy_size ≤ length (drop base a) = rw length-drop (omega arith) in
    length-take-le copy_size (drop base a) long
