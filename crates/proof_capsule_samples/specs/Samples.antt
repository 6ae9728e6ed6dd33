-- What the definitions compute: a capsule with one driver and one payload, the rule on flags, the customer's sample 12,
-- refusals 13 and 15. No contract cites this file. Assumes nothing.
use Rattle.std.specs.Prelude.{ℕ, ◌≡◌, refl, List, [], ◌∷◌, ◌++◌, true, false, replicate, drop, Ok, Err}
use Rattle.fields.specs.Number.{le, bytes}
use Rattle.fields.specs.Guid.{guid, same}
use Rattle.refusals.specs.declared.Refusal.TheVariants.{NoItem}
use Rattle.capsule_header.specs.Header.{header_size, flags, capsule_image_size, sizes_right, flags_right, fmp_guid, guid_right, body}
use Rattle.capsule_payloads.specs.Payload.{version, type_guid, image_index, image_size, vendor_code_size, hardware_instance}
use Rattle.capsule_payloads.specs.Payload.{version_right, header_length, payload_right}
use Rattle.fields.specs.Part.{part, range, empty_at_start}
use Rattle.capsule_body.specs.Body.{all, body_version, drivers, payloads, offset, rises, offset_right, body_right, item_end, item}
use Rattle.capsule_payloads.specs.Payload.{payload_at_right, payloads_right}
use Rattle.refusal_order.specs.Decide.{verdict_number}
use Rattle.capsule_check.specs.Verdict.{verdict, item_verdict, refusal_number}
use Rattle.capsule_check.specs.Item.{item_start_in, item_end_in, located}
use Rattle.capsule_check.specs.declared.Item.TheVariants.{Driver, Payload}
use Rattle.capsule_parts.specs.Parts.{image_part, vendor_code_part}
use Rattle.capsule_values.specs.Shown.{type_guid_of, image_index_of, hardware_instance_of}

-- a header with HeaderSize h and CapsuleImageSize n, no flag set
abbrev header : ℕ → ℕ → List ℕ
header h n = fmp_guid ++ bytes 4 h ++ bytes 4 0 ++ bytes 4 n

-- one driver of 3 bytes and one payload of version 2: an image of 2 bytes, a vendor code of 1, and a spare byte
abbrev sample : List ℕ
sample =
    header 28 99 ++ bytes 4 1 ++ bytes 2 1 ++ bytes 2 1 ++ bytes 8 24 ++ bytes 8 27
    ++ (1 ∷ 2 ∷ 3 ∷ [])
    ++ bytes 4 2 ++ replicate 16 7 ++ (5 ∷ 0 ∷ 0 ∷ 0 ∷ []) ++ bytes 4 2 ++ bytes 4 1 ++ bytes 8 9
    ++ (0xa1 ∷ 0xa2 ∷ 0xb1 ∷ 0 ∷ [])

items_of : (located sample 0 ≡ Ok (Driver 52 55)) × (located sample 1 ≡ Ok (Payload 55 99))
    × (located sample 2 ≡ Err NoItem)
unfolding le bytes guid same header_size flags capsule_image_size sizes_right flags_right guid_right body version
    image_size vendor_code_size version_right header_length payload_right all body_version drivers payloads offset
    rises offset_right body_right item_end item payload_at_right payloads_right verdict item_verdict item_start_in
    item_end_in located
items_of = (refl, refl, refl)

driver_parts : (image_part sample (Ok (Driver 52 55)) ≡ range 52 55) × (vendor_code_part sample (Ok (Driver 52 55)) ≡ range 55 55)
driver_parts = (refl, refl)

payload_parts : (image_part sample (Ok (Payload 55 99)) ≡ range 95 97) × (vendor_code_part sample (Ok (Payload 55 99)) ≡ range 97 98)
unfolding le bytes version image_size vendor_code_size header_length
payload_parts = (refl, refl)

payload_shown : (type_guid_of sample (Ok (Payload 55 99)) ≡ replicate 16 7)
    × (image_index_of sample (Ok (Payload 55 99)) ≡ 5) × (hardware_instance_of sample (Ok (Payload 55 99)) ≡ 9)
unfolding le bytes guid version type_guid image_index hardware_instance
payload_shown = (refl, refl, refl)

-- the bytes that are handed out: the image, then the vendor code
payload_bytes : (part sample 95 97 ≡ 0xa1 ∷ 0xa2 ∷ []) × (part sample 97 98 ≡ 0xb1 ∷ [])
unfolding bytes
payload_bytes = (refl, refl)

-- the rule on flags (C4)
flag_rule : (flags_right 0x00040000 ≡ false) × (flags_right 0x00050000 ≡ true)
    × (flags_right 0x00020000 ≡ true) × (flags_right 0xfffeffff ≡ false)
unfolding flags_right
flag_rule = (refl, refl, refl, refl)

-- sample 12: a capsule of 27 bytes; of 28 with HeaderSize 27; else sound, with a body of 7
sample_12 : (verdict_number (verdict (replicate 27 0)) ≡ 10) × (verdict_number (verdict (header 27 28)) ≡ 11)
    × (verdict_number (verdict (header 28 35 ++ bytes 4 1 ++ replicate 3 0)) ≡ 14)
unfolding le bytes guid same header_size flags capsule_image_size sizes_right flags_right guid_right body body_version body_right verdict
sample_12 = (refl, refl, refl)

-- 13 for another GUID; 15 for item 0 and for item 9, which is past the count, where the one payload has version 3
abbrev version3 : List ℕ
version3 = header 28 76 ++ bytes 4 1 ++ bytes 2 0 ++ bytes 2 1 ++ bytes 8 16 ++ bytes 4 3 ++ replicate 28 0

others : (verdict_number (verdict (replicate 16 0 ++ drop 16 (header 28 28))) ≡ 13)
    × (refusal_number version3 0 ≡ 15) × (refusal_number version3 9 ≡ 15)
unfolding le bytes guid same header_size flags capsule_image_size sizes_right flags_right guid_right body version
    image_size vendor_code_size version_right header_length payload_right all body_version drivers payloads offset
    rises offset_right body_right item_end item payload_at_right payloads_right verdict item_verdict
others = (refl, refl, refl)
