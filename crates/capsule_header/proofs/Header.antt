-- Laws of the header's sizes and flags. Assumes nothing.
use mathlib.Core.Path.{◌≡◌, refl}
use mathlib.Core.Bool.{Bool, true, false, not, ◌&&◌, ◌||◌}
use mathlib.Core.List.{List}
use mathlib.Core.Logic.{⊎_elim}
use Prim.Native.Nat.{ℕ, ◌+◌, ◌-◌, ◌*◌, ◌/◌, ◌%◌, ◌≤◌, ◌<◌}
use native.Mathlib.Omega.{arith}
use borrow.Author.Tests.{leb-true, eqb-true, ne_eqb}
use lib.Dec.{leb, eqb}
use lib.ListN.{length, drop, take, length-drop}
use lib.Seq.{take_all}
use Rattle.std.specs.Prelude.{bit_and}
use Rattle.std.proofs.lemmas.Nat.Bits.{and_high}
use Rattle.fields.proofs.Tests.{both, le_or_lt}
use Rattle.capsule_header.specs.Header.{header_size, capsule_image_size, sizes_right, is_set, reset, persist, flags_right, body}

-- a bit by its mask m, a being what f has of it
set_by_mask : (m f a : ℕ) → a ≡ f / m % 2 * m → 0 < m → is_set m f ≡ not (eqb a 0)
set_by_mask m f a e some =
    ⊎_elim
    (λ le.
    let z : f / m % 2 ≡ 0 = omega arith in
    let n : a ≡ 0 = omega (arith, rw z at e) in
    rw (z, n))
    (λ lt.
    let z : f / m % 2 ≡ 1 = omega arith in
    let n : a ≡ m = omega (arith, rw z at e) in
    rw (z, ne_eqb a 0 (λ q. omega arith)))
    (le_or_lt (f / m % 2) 0)

pub flags_by_masks : (f : ℕ) → flags_right f ≡ (eqb (bit_and f reset) 0 || not (eqb (bit_and f persist) 0))
unfolding flags_right
flags_by_masks f =
    let r = set_by_mask reset f (bit_and f reset) (and_high f 1 18) (omega arith) in
    let p = set_by_mask persist f (bit_and f persist) (and_high f 1 16) (omega arith) in
    rw (r, p) (go (eqb (bit_and f reset) 0))
  where
    go : (t : Bool) → (not (not t) || not (eqb (bit_and f persist) 0)) ≡ (t || not (eqb (bit_and f persist) 0))
    go true = refl
    go false = refl

module _ (s : List ℕ) (right : sizes_right s ≡ true) where
  -- the header ends in the capsule
  pub header_in : (28 ≤ header_size s) × (header_size s ≤ length s)
  unfolding sizes_right
  header_in =
      let x = both (leb 28 (header_size s) && leb (header_size s) (capsule_image_size s)) (eqb (capsule_image_size s) (length s)) right in
      let y = both (leb 28 (header_size s)) (leb (header_size s) (capsule_image_size s)) x.0 in
      let low = leb-true (header_size s) (capsule_image_size s) y.1 in
      (leb-true 28 (header_size s) y.0, omega (arith, low, eqb-true (capsule_image_size s) (length s) x.1))

  -- CapsuleImageSize is the length
  pub size_told : capsule_image_size s ≡ length s
  unfolding sizes_right
  size_told =
      eqb-true (capsule_image_size s) (length s)
      (both (leb 28 (header_size s) && leb (header_size s) (capsule_image_size s)) (eqb (capsule_image_size s) (length s)) right).1

  -- the body and the header make the capsule
  pub body_length : header_size s + length (body s) ≡ length s
  unfolding body
  body_length = omega (arith, length-drop (header_size s) s, header_in.0, header_in.1)

  -- the body is what is left from its start
  pub body_rest : take (length s - header_size s) (drop (header_size s) s) ≡ body s
  unfolding body
  body_rest = take_all (length s - header_size s) (drop (header_size s) s) (omega (arith, length-drop (header_size s) s))
