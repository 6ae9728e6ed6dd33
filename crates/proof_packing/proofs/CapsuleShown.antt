-- A capsule that was packed shows what it was packed from, each part at its place. Assumes nothing.
use mathlib.Core.Path.{◌≡◌, refl, sym, ap, ◌∙◌}
use mathlib.Core.List.{List, ◌++◌, append_assoc}
use mathlib.Core.Logic.{⊎_elim}
use Prim.Native.Nat.{ℕ, ◌+◌, ◌<◌, ◌≤◌}
use native.Mathlib.Omega.{arith}
use lib.ListN.{length, drop}
use lib.Seq.{drop-drop}
use Rattle.fields.specs.Part.{part, range}
use Rattle.fields.proofs.Tests.{le_or_lt}
use Rattle.fields.proofs.Stacked.{behind, part_at}
use Rattle.capsule_header.specs.Header.{body}
use Rattle.capsule_body.specs.Body.{drivers, payloads, items}
use Rattle.capsule_payloads.specs.Payload.{version, header_length, image_start, image_end, vendor_code_end}
use Rattle.std.specs.Prelude.{Ok}
use Rattle.capsule_check.specs.declared.Item.TheVariants.{Driver, Payload}
use Rattle.capsule_check.specs.Item.{item_start_in, item_end_in, located}
use Rattle.capsule_check.proofs.Places.{located_driver, located_payload}
use Rattle.capsule_items.specs.Items.{item_part}
use Rattle.capsule_parts.specs.Parts.{image_part, vendor_code_part}
use Rattle.capsule_counts.specs.Count.{driver_count, payload_count}
use Rattle.capsule_values.specs.Shown.{shown, type_guid_of, image_index_of, hardware_instance_of}
use Rattle.capsule_contents.specs.Contents.{PayloadContents, Contents, items_of}
use Rattle.capsule_contents.specs.Contents.{payload_header_bytes, payload_bytes, item_bytes, capsule_bytes}
use Rattle.capsule_contents.specs.Lent.{bytes_of}
use Rattle.capsule_contents.proofs.Lengths.{payload_header_length, payload_length, capsule_length}
use Rattle.proof_packing.specs.RoundTrip.{shown_payload, shown_contents, Same, place_of, Placed}
use Rattle.proof_packing.proofs.Good.{Good}
use Rattle.proof_packing.proofs.PayloadFields as fields
use Rattle.proof_packing.proofs.BodyFields.{driver_bytes, payload_bytes_lem, offset_next, offset_end}
use Rattle.proof_packing.proofs.BodyFields.{drivers_read, payloads_read, items_read, offset_read, end_read, item_at}
use Rattle.proof_packing.proofs.CapsuleTaken.{body_at, header_read, flags_read, body_read, taken, payload_small}

module _ (c : Contents) (good : Good c) where
  abbrev s : List ℕ
  s = capsule_bytes c

  driver_count_lem : driver_count s ≡ c.drivers
  unfolding driver_count
  driver_count_lem = rw (taken c good, body_read c good) (drivers_read c good)

  payload_count_lem : payload_count s ≡ c.payloads
  unfolding payload_count
  payload_count_lem = rw (taken c good, body_read c good) (payloads_read c good)

  -- ---- where an item lies
  module _ (k : ℕ) (h : k < items_of c) where
    start_in : item_start_in s k ≡ place_of c k
    unfolding item_start_in
    start_in = rw (header_read c good, body_read c good, offset_read c good k h)

    end_in : item_end_in s k ≡ place_of c (k + 1)
    unfolding item_end_in
    end_in = rw (header_read c good, body_read c good, end_read c good k h)

    in_body : k < items (body s)
    in_body = rw (body_read c good, items_read c good) h

    driver_located : k < c.drivers → located s k ≡ Ok (Driver (place_of c k) (place_of c (k + 1)))
    driver_located d =
        let e : k < drivers (body s) = rw (body_read c good, drivers_read c good) d in
        rw (located_driver s k (taken c good) in_body e, start_in, end_in)

    payload_located : c.drivers ≤ k → located s k ≡ Ok (Payload (place_of c k) (place_of c (k + 1)))
    payload_located d =
        let e : drivers (body s) ≤ k = rw (body_read c good, drivers_read c good) d in
        rw (located_payload s k (taken c good) in_body e, start_in, end_in)

    place_next : place_of c (k + 1) ≡ place_of c k + length (item_bytes c k)
    place_next = omega (arith, offset_next c k)

    -- its bytes stand there
    stands : drop (place_of c k) s ≡ item_bytes c k ++ drop (place_of c (k + 1)) s
    stands =
        let into : (m : ℕ) → drop (28 + m) s ≡ drop m (drop 28 s) = λ m. sym (drop-drop m 28 s) in
        rw (into, into, body_at c good) (item_at c good k h)

    item_part_lem : part s (place_of c k) (place_of c (k + 1)) ≡ item_bytes c k
    item_part_lem = part_at s (item_bytes c k) _ (place_of c k) (place_of c (k + 1)) stands (sym place_next)

    item_placed : item_part (located s k) ≡ range (place_of c k) (place_of c (k + 1))
    item_placed = ⊎_elim (λ p. rw (payload_located p)) (λ d. rw (driver_located d)) (le_or_lt c.drivers k)

  -- ---- a payload
  module _ (j : ℕ) (h : j < c.payloads) where
    abbrev p : PayloadContents
    p = c.payload j

    abbrev k : ℕ
    k = c.drivers + j

    abbrev a : ℕ
    a = place_of c k

    abbrev e : ℕ
    e = place_of c (k + 1)

    abbrev q : List ℕ
    q = payload_bytes p

    abbrev head : ℕ
    head = header_length p.version

    in_items : k < items_of c
    in_items = omega arith

    found : located s k ≡ Ok (Payload a e)
    found = payload_located k in_items (omega arith)

    payload_part : part s a e ≡ q
    payload_part = item_part_lem k in_items ∙ payload_bytes_lem c j

    payload_end : e ≡ a + length q
    payload_end = place_next k in_items ∙ ap (λ (l : List ℕ). a + length l) (payload_bytes_lem c j)

    -- where its two parts lie
    places : (a + image_start q ≡ a + head) × (a + image_end q ≡ a + head + length p.image) × (a + vendor_code_end q ≡ e)
    places =
        let small = payload_small c good j h in
        let start = fields.start_read p (good.payload j h) small in
        let size = fields.image_size_read p (good.payload j h) small in
        let end = fields.end_read p (good.payload j h) small in
        (omega arith, omega arith, omega (arith, payload_end))

    image_placed : image_part s (located s k) ≡ range (a + head) (a + head + length p.image)
    image_placed = rw (found, payload_part, places.0, places.1)

    code_placed : vendor_code_part s (located s k) ≡ range (a + head + length p.image) e
    code_placed = rw (found, payload_part, places.1, places.2)

    -- and stand there
    parts_at : drop a s ≡ payload_header_bytes p ++ (p.image ++ (p.vendor_code ++ drop e s))
    unfolding payload_bytes
    parts_at = stands k in_items ∙ rw (payload_bytes_lem c j) (simp append_assoc)

    image_at_lem : drop (a + head) s ≡ p.image ++ (p.vendor_code ++ drop e s)
    image_at_lem = behind s (payload_header_bytes p) _ a head parts_at (payload_header_length p (good.payload j h).whole)

    image_shown : bytes_of s (image_part s (located s k)) ≡ p.image
    image_shown = rw image_placed (part_at s p.image _ (a + head) _ image_at_lem refl)

    code_shown : bytes_of s (vendor_code_part s (located s k)) ≡ p.vendor_code
    code_shown =
        let o = a + head + length p.image in
        let at = behind s p.image _ (a + head) (length p.image) image_at_lem refl in
        let end : o + length p.vendor_code ≡ e = omega (arith, payload_end, payload_length p (good.payload j h).whole) in
        rw code_placed (part_at s p.vendor_code _ o e at end)

    payload_same : p ≡ shown_payload s j
    payload_same =
        let g = good.payload j h in
        let small = payload_small c good j h in
        let version : shown version 0 s (located s k) ≡ p.version = rw (found, payload_part) (fields.version_read p g small) in
        let guid : type_guid_of s (located s k) ≡ p.type_guid = rw (found, payload_part) (fields.guid_read p g small) in
        let index : image_index_of s (located s k) ≡ p.image_index = rw (found, payload_part) (fields.index_read p g small) in
        let instance : hardware_instance_of s (located s k) ≡ p.hardware_instance =
        rw (found, payload_part) (fields.instance_read p g small) in
        rw (driver_count_lem, version, guid, index, instance, image_shown, code_shown)

  -- ---- all of it
  driver_same : (k : ℕ) → k < c.drivers → c.driver k ≡ bytes_of s (item_part (located s k))
  driver_same k d =
      let h : k < items_of c = omega arith in
      rw (driver_located k h d) (sym (item_part_lem k h ∙ driver_bytes c k d))

  pub same_shown : Same c (shown_contents s)
  same_shown =
      record {
        flags = sym (flags_read c good);
        drivers = sym driver_count_lem;
        payloads = sym payload_count_lem;
        driver = driver_same;
        payload = payload_same;
      }

  pub placed_shown : Placed s c
  placed_shown =
      record {
        item = item_placed;
        image = image_placed;
        vendor_code = code_placed;
        end = omega (arith, offset_end c, capsule_length c);
      }
