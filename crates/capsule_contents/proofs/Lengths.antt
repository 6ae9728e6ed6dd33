-- How long the bytes of a packed capsule are, part by part. Assumes nothing.
use mathlib.Core.Path.{◌≡◌, refl, sym, ap, ◌∙◌}
use mathlib.Core.Bool.{Bool, true, false, cond}
use mathlib.Core.List.{List, [], ◌∷◌, ◌++◌}
use Prim.Native.Nat.{ℕ, zero, suc, ◌+◌, ◌*◌, ◌<◌}
use native.Mathlib.Omega.{arith}
use native.Mathlib.Nat.{mul_comm}
use lib.Dec.{eqb}
use lib.ListN.{length, length-append}
use Rattle.fields.specs.Number.{bytes}
use Rattle.fields.specs.Joined.{joined}
use Rattle.fields.proofs.Number.{length_bytes}
use Rattle.fields.proofs.Joined.{joined_length}
use Rattle.capsule_header.specs.Header.{fmp_guid}
use Rattle.capsule_payloads.specs.Payload.{header_length}
use Rattle.capsule_contents.specs.Contents.{PayloadContents, payload_header_bytes, payload_bytes}
use Rattle.capsule_contents.specs.Contents.{Contents, items_of, item_bytes, offset_of, body_bytes, header_bytes, capsule_bytes}
use Rattle.capsule_contents.specs.Sizes.{sum}

-- lists one behind another are as long as all of them
pub joined_sum : (n : ℕ) (g : ℕ → List ℕ) (f : ℕ → ℕ) → ((k : ℕ) → k < n → length (g k) ≡ f k) → length (joined n g) ≡ sum n f
unfolding joined sum
joined_sum zero g f h = refl
joined_sum (suc n) g f h =
    omega (arith, length-append (joined n g) (g n), joined_sum n g f (λ k lt. h k (omega arith)), h n (omega arith))

module _ (p : PayloadContents) (guid : length p.type_guid ≡ 16) where
  -- what only version 2 has
  last : length (cond (eqb p.version 1) [] (bytes 8 p.hardware_instance)) + 32 ≡ header_length p.version
  unfolding header_length
  last = go (eqb p.version 1)
    where
      go : (t : Bool) → length (cond t [] (bytes 8 p.hardware_instance)) + 32 ≡ cond t 32 40
      go true = refl
      go false = omega (arith, length_bytes 8 p.hardware_instance)

  pub payload_header_length : length (payload_header_bytes p) ≡ header_length p.version
  unfolding payload_header_bytes
  payload_header_length =
      let v = p.version in
      let i = length p.image in
      let c = length p.vendor_code in
      simp (length-append, length_bytes 4 v, length_bytes 4 i, length_bytes 4 c) (omega (arith, last))

  pub payload_length : length (payload_bytes p) ≡ header_length p.version + length p.image + length p.vendor_code
  unfolding payload_bytes
  payload_length =
      omega (
        arith,
        payload_header_length,
        length-append (payload_header_bytes p) p.image,
        length-append (payload_header_bytes p ++ p.image) p.vendor_code,
      )

module _ (c : Contents) where
  pub offsets_length : length (joined (items_of c) (λ k. bytes 8 (offset_of c k))) ≡ 8 * items_of c
  offsets_length =
      joined_length 8 (items_of c) (λ k. bytes 8 (offset_of c k)) (λ k h. length_bytes 8 (offset_of c k)) ∙ mul_comm (items_of c) 8

  pub body_length : length (body_bytes c) ≡ 8 + 8 * items_of c + length (joined (items_of c) (item_bytes c))
  unfolding body_bytes
  body_length =
      let n = items_of c in
      let offsets = joined n (λ k. bytes 8 (offset_of c k)) in
      let all = joined n (item_bytes c) in
      let l4 = length_bytes 4 1 in
      let ld = length_bytes 2 c.drivers in
      let lp = length_bytes 2 c.payloads in
      simp (length-append, l4, ld, lp, offsets_length) (omega arith)

pub header_length_lem : (flags size : ℕ) → length (header_bytes flags size) ≡ 28
unfolding header_bytes
header_length_lem flags size =
    let a = length_bytes 4 28 in
    let b = length_bytes 4 flags in
    let d = length_bytes 4 size in
    simp (length-append, a, b, d)

pub capsule_length : (c : Contents) → length (capsule_bytes c) ≡ 28 + length (body_bytes c)
unfolding capsule_bytes
capsule_length c =
    let h = header_bytes c.flags (28 + length (body_bytes c)) in
    omega (arith, length-append h (body_bytes c), header_length_lem c.flags (28 + length (body_bytes c)))
