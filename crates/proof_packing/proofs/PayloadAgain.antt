-- A tight payload is the bytes of what it tells. p is the bytes of its item. Assumes nothing.
use mathlib.Core.Path.{◌≡◌, refl, sym, ap, ◌∙◌}
use mathlib.Core.Bool.{Bool, true, false, cond}
use mathlib.Core.List.{List, [], ◌∷◌, ◌++◌, append_assoc, append-nil}
use Prim.Native.Nat.{ℕ, ◌+◌, ◌≤◌}
use native.Mathlib.Omega.{arith}
use borrow.Author.Tests.{eqb-true, eqb-false}
use lib.Dec.{eqb}
use lib.ListN.{length, drop, take-append-drop, drop_of_length-le}
use lib.Seq.{drop-drop, drop-cons}
use Rattle.fields.specs.Number.{Bytes, le, bytes}
use Rattle.fields.specs.Guid.{guid}
use Rattle.fields.specs.Part.{part}
use Rattle.fields.proofs.Tests.{both}
use Rattle.fields.proofs.Bytes.{drop_number}
use Rattle.fields.proofs.Part.{part_length, part_then}
use Rattle.capsule_payloads.specs.Payload.{version, type_guid, image_index, image_size, vendor_code_size, hardware_instance}
use Rattle.capsule_payloads.specs.Payload.{header_length, image_start, image_end, vendor_code_end, payload_right}
use Rattle.capsule_payloads.proofs.Payload.{first_header, second_header}
use Rattle.capsule_contents.specs.Contents.{PayloadContents, payload_header_bytes, payload_bytes}
use Rattle.proof_packing.specs.Tight.{payload_tight}

-- what it tells
abbrev pub payload_in : List ℕ → PayloadContents
payload_in p =
    record {
      version = version p;
      type_guid = type_guid p;
      image_index = image_index p;
      hardware_instance = hardware_instance p;
      image = part p (image_start p) (image_end p);
      vendor_code = part p (image_end p) (vendor_code_end p);
    }

module _ (p : List ℕ) (small : Bytes p) (right : payload_right p ≡ true) where
  -- the hardware instance, where the version has one
  instance_again : drop 32 p ≡ cond (eqb (version p) 1) [] (bytes 8 (hardware_instance p)) ++ drop (image_start p) p
  unfolding hardware_instance header_length
  instance_again = go (eqb (version p) 1) refl
    where
      go : (t : Bool) → eqb (version p) 1 ≡ t → drop 32 p ≡ cond t [] (bytes 8 (cond t 0 (le 8 p 32))) ++ drop (cond t 32 40) p
      go true e = refl
      go false e = drop_number 8 p 32 small (second_header p right (eqb-false (version p) 1 e))

  guid_again : drop 4 p ≡ type_guid p ++ drop 20 p
  unfolding type_guid guid
  guid_again = sym (take-append-drop 16 (drop 4 p)) ∙ rw (drop-drop 16 4 p)

  module _ (tightly : payload_tight p ≡ true) where
    ends : vendor_code_end p ≡ length p
    unfolding payload_tight
    ends = eqb-true (vendor_code_end p) (length p) (both (eqb (vendor_code_end p) (length p)) (eqb (le 3 p 21) 0) tightly).0

    reserved : drop 21 p ≡ 0 ∷ 0 ∷ 0 ∷ drop 24 p
    unfolding payload_tight bytes
    reserved =
        let zero : le 3 p 21 ≡ 0 = eqb-true (le 3 p 21) 0 (both (eqb (vendor_code_end p) (length p)) (eqb (le 3 p 21) 0) tightly).1 in
        rw zero at (drop_number 3 p 21 small (omega (arith, first_header p right)))

    -- the header, field behind field
    header_again : (rest : List ℕ) → drop (image_start p) p ≡ rest
        → p
        ≡ bytes 4 (version p) ++ (type_guid p ++ (image_index p ∷ 0 ∷ 0 ∷ 0 ∷ (bytes 4 (image_size p) ++ (bytes 4 (vendor_code_size p)
        ++ (cond (eqb (version p) 1) [] (bytes 8 (hardware_instance p)) ++ rest)))))
    unfolding version image_index image_size vendor_code_size
    header_again rest e =
        let long = first_header p right in
        drop_number 4 p 0 small (omega arith)
        ∙ rw (
          guid_again,
          drop-cons p 20 0 (omega arith),
          reserved,
          drop_number 4 p 24 small (omega arith),
          drop_number 4 p 28 small (omega arith),
          instance_again,
          e,
        )

    -- the parts, up to the item's end
    parts_again : drop (image_start p) p ≡ (payload_in p).image ++ (payload_in p).vendor_code
    parts_again =
        let past : length p ≤ vendor_code_end p = omega (arith, ends) in
        let code = part_then p (image_end p) (vendor_code_end p) (omega arith) in
        part_then p (image_start p) (image_end p) (omega arith)
        ∙ ap (λ (l : List ℕ). (payload_in p).image ++ l)
        (code ∙ rw (drop_of_length-le p past) (append-nil (payload_in p).vendor_code))

    pub payload_again : payload_bytes (payload_in p) ≡ p
    unfolding payload_bytes payload_header_bytes
    payload_again =
        let image : length (payload_in p).image ≡ image_size p =
        omega (arith, part_length p (image_start p) (image_end p) (omega (arith, ends))) in
        let code : length (payload_in p).vendor_code ≡ vendor_code_size p =
        omega (arith, part_length p (image_end p) (vendor_code_end p) (omega (arith, ends))) in
        sym (header_again ((payload_in p).image ++ (payload_in p).vendor_code) parts_again ∙ simp (append_assoc, image, code))
