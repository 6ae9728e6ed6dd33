-- What is shown of a capsule that the reader takes, by the items of its body. s is the bytes of the capsule.
-- Assumes nothing.
use mathlib.Core.Path.{◌≡◌, refl, sym, ap, ◌∙◌}
use mathlib.Core.Bool.{Bool, true, false, ◌&&◌}
use mathlib.Core.List.{List}
use Prim.Native.Nat.{ℕ, ◌+◌, ◌-◌, ◌^◌, ◌≤◌, ◌<◌}
use native.Mathlib.Omega.{arith}
use borrow.Author.Tests.{le-leb, eqb-true}
use lib.Dec.{leb, eqb}
use lib.ListN.{length, drop}
use Rattle.fields.specs.Number.{Bytes}
use Rattle.fields.specs.Part.{part}
use Rattle.fields.proofs.Tests.{both}
use Rattle.fields.proofs.Bytes.{take_bytes, drop_bytes, le_small}
use Rattle.fields.proofs.Part.{part_length, part_part}
use Rattle.refusals.specs.declared.Refusal.TheVariants.{CapsuleFlags, CapsuleGuid}
use Rattle.std.specs.Prelude.{Result, Ok}
use Rattle.refusals.specs.declared.Refusal.{Refusal}
use Rattle.capsule_header.specs.Header.{header_least, header_size, flags, capsule_image_size, sizes_right, flags_right, guid_right, body}
use Rattle.capsule_header.proofs.Header.{size_told}
use Rattle.capsule_body.specs.Body.{drivers, payloads, items, offset, item_end, item}
use Rattle.capsule_body.proofs.Body.{all_at}
use Rattle.capsule_payloads.specs.Payload.{version, type_guid, image_index, hardware_instance, image_start, image_end, vendor_code_end}
use Rattle.capsule_payloads.specs.Payload.{payload_right, payload_at_right, payloads_right}
use Rattle.capsule_payloads.proofs.Payload.{payload_fits}
use Rattle.capsule_check.specs.Verdict.{unless, verdict}
use Rattle.capsule_check.specs.Item.{item_start_in, item_end_in, located}
use Rattle.capsule_check.specs.declared.Item.{Item}
use Rattle.capsule_check.specs.declared.Item.TheVariants.{Payload}
use Rattle.capsule_check.proofs.PassedCheck.{Sound, faultless}
use Rattle.capsule_check.proofs.Places.{located_driver, located_payload, item_inside, item_is}
use Rattle.capsule_items.specs.Items.{item_part}
use Rattle.capsule_parts.specs.Parts.{image_part, vendor_code_part}
use Rattle.capsule_counts.specs.Count.{driver_count, payload_count}
use Rattle.capsule_values.specs.Shown.{shown, type_guid_of, image_index_of, hardware_instance_of}
use Rattle.capsule_contents.specs.Contents.{PayloadContents}
use Rattle.capsule_contents.specs.Lent.{bytes_of}
use Rattle.proof_packing.specs.RoundTrip.{Taken, shown_payload}
use Rattle.proof_packing.proofs.PayloadAgain.{payload_in}

-- what is shown of a payload, by its item
abbrev payload_of : (s : List ℕ) → Result Item Refusal → PayloadContents
payload_of s i =
    record {
      version = shown version 0 s i;
      type_guid = type_guid_of s i;
      image_index = image_index_of s i;
      hardware_instance = hardware_instance_of s i;
      image = bytes_of s (image_part s i);
      vendor_code = bytes_of s (vendor_code_part s i);
    }

pub item_bytes_lem : (s : List ℕ) (k : ℕ) → Bytes s → Bytes (item (body s) k)
unfolding item body
item_bytes_lem s k small =
    let b = drop (header_size s) s in
    take_bytes (item_end b k - offset b k) (drop (offset b k) b) (drop_bytes (offset b k) b (drop_bytes (header_size s) s small))

module _ (s : List ℕ) (taken : Taken s) where
  pub sound_of : Sound s
  sound_of = faultless s taken

  -- so that it is told in 32 bits
  pub length_low : Bytes s → length s < 2 ^ 32
  unfolding capsule_image_size
  length_low small = omega (arith, le_small 4 s 24 small, size_told s sound_of.sizes)

  pub drivers_shown : driver_count s ≡ drivers (body s)
  unfolding driver_count
  drivers_shown = rw taken

  pub payloads_shown : payload_count s ≡ payloads (body s)
  unfolding payload_count
  payloads_shown = rw taken

  pub driver_shown : (k : ℕ) → k < drivers (body s) → bytes_of s (item_part (located s k)) ≡ item (body s) k
  driver_shown k lt =
      let in_all : k < items (body s) = omega arith in
      rw (located_driver s k taken in_all lt) (item_is s k sound_of in_all)

  module _ (j : ℕ) (lt : j < payloads (body s)) where
    pub right_shown : payload_right (item (body s) (drivers (body s) + j)) ≡ true
    unfolding payloads_right payload_at_right
    right_shown = all_at (payload_at_right (body s)) (payloads (body s)) j sound_of.payloads lt

    pub payload_shown : shown_payload s j ≡ payload_in (item (body s) (drivers (body s) + j))
    payload_shown =
        let k = drivers (body s) + j in
        let in_all : k < items (body s) = omega arith in
        let a = item_start_in s k in
        let e = item_end_in s k in
        let p = part s a e in
        let is = item_is s k sound_of in_all in
        let inside = item_inside s k sound_of in_all in
        let long = part_length s a e inside.within in
        let fits = payload_fits p (rw is right_shown) in
        let within : a + vendor_code_end p ≤ e = omega (arith, inside.some) in
        let image = part_part s a e (image_start p) (image_end p) (omega arith) (omega arith) in
        let code = part_part s a e (image_end p) (vendor_code_end p) (omega arith) (omega arith) in
        let parts : payload_of s (Ok (Payload a e)) ≡ payload_in p =
        λ i.
        record {
          version = version p;
          type_guid = type_guid p;
          image_index = image_index p;
          hardware_instance = hardware_instance p;
          image = sym image i;
          vendor_code = sym code i;
        } in
        ap (λ (n : ℕ). payload_of s (located s (n + j))) drivers_shown
        ∙ ap (payload_of s) (located_payload s k taken in_all (omega arith))
        ∙ parts
        ∙ ap payload_in is
