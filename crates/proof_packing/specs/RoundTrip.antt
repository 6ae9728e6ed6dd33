-- What is packed is taken by the reader and shows what was given, at its place (C34); a tight capsule that is read is
-- packed again to the same bytes (C35 to C37). s is the bytes of a capsule, x what is lent to the packer. Assumes
-- nothing.
use Rattle.std.specs.Prelude.{ℕ, ◌+◌, ◌-◌, ◌^◌, ◌<◌, ◌≤◌, ◌≡◌, true, Ok, List, [], ◌∷◌, ◌++◌, length, take}
use Rattle.fields.specs.Number.{Bytes, bytes, put}
use Rattle.fields.specs.Part.{part, Range, range}
use Rattle.fields.specs.Joined.{joined}
use Rattle.refusal_order.specs.Decide.{Reply, gives}
use Rattle.capsule_header.specs.Header.{header_least, flags}
use Rattle.capsule_payloads.specs.Payload.{version, header_length}
use Rattle.capsule_check.specs.Verdict.{verdict}
use Rattle.capsule_check.specs.Item.{located}
use Rattle.capsule_items.specs.Items.{item_part}
use Rattle.capsule_parts.specs.Parts.{image_part, vendor_code_part}
use Rattle.capsule_counts.specs.Count.{driver_count, payload_count}
use Rattle.capsule_values.specs.Shown.{shown, type_guid_of, image_index_of, hardware_instance_of}
use Rattle.capsule_contents.specs.Contents.{PayloadContents, Contents, items_of, offset_of}
use Rattle.capsule_contents.specs.Lent.{Lent, lent, contents_of, bytes_of}
use Rattle.capsule_packing_rules.specs.Rules.{parts_inside}
use Rattle.capsule_packer.specs.Packer.{packed}
use Rattle.proof_packing.specs.Tight.{tight}

-- the reader takes s: it gives none of 10 to 15
abbrev pub Taken : (s : List ℕ) → Type 0
Taken s = verdict s ≡ Ok tt

-- ---- what is shown of a capsule
-- payload j, by what the reader's entries show of its item, and by its version, which no entry shows: it is read in the
-- item
abbrev pub shown_payload : (s : List ℕ) (j : ℕ) → PayloadContents
shown_payload s j =
    record {
      version = shown version 0 s (located s (driver_count s + j));
      type_guid = type_guid_of s (located s (driver_count s + j));
      image_index = image_index_of s (located s (driver_count s + j));
      hardware_instance = hardware_instance_of s (located s (driver_count s + j));
      image = bytes_of s (image_part s (located s (driver_count s + j)));
      vendor_code = bytes_of s (vendor_code_part s (located s (driver_count s + j)));
    }

abbrev pub shown_contents : (s : List ℕ) → Contents
shown_contents s =
    record {
      flags = flags s;
      drivers = driver_count s;
      driver = λ k. bytes_of s (item_part (located s k));
      payloads = payload_count s;
      payload = shown_payload s;
    }

-- the same flags, counts, drivers and payloads
pub record Same (c d : Contents) : Type 0 where
  pub flags : c.flags ≡ d.flags
  pub drivers : c.drivers ≡ d.drivers
  pub payloads : c.payloads ≡ d.payloads
  pub driver : (k : ℕ) → k < c.drivers → c.driver k ≡ d.driver k
  pub payload : (j : ℕ) → j < c.payloads → c.payload j ≡ d.payload j

-- ---- where the parts of a packed capsule stand
-- item k from the capsule's start: the header, then the offset
abbrev pub place_of : Contents → ℕ → ℕ
place_of c k = header_least + offset_of c k

-- a payload's image behind its header, its vendor code behind that, up to the next item or the capsule's end
pub record Placed (s : List ℕ) (c : Contents) : Type 0 where
  pub item : (k : ℕ) → k < items_of c → item_part (located s k) ≡ range (place_of c k) (place_of c (k + 1))
  pub image : (j : ℕ) → j < c.payloads
      → image_part s (located s (c.drivers + j))
      ≡ range (place_of c (c.drivers + j) + header_length (c.payload j).version)
      (place_of c (c.drivers + j) + header_length (c.payload j).version + length (c.payload j).image)
  pub vendor_code : (j : ℕ) → j < c.payloads
      → vendor_code_part s (located s (c.drivers + j))
      ≡ range (place_of c (c.drivers + j) + header_length (c.payload j).version + length (c.payload j).image)
      (place_of c (c.drivers + j + 1))
  pub end : place_of c (items_of c) ≡ length s

-- ---- what a tight capsule is packed from again
-- a part, as a table tells it (C27)
abbrev pub part_bytes : (start size : ℕ) → List ℕ
part_bytes start size = bytes 8 start ++ bytes 8 size

abbrev pub told_part : Range → List ℕ
told_part r = part_bytes r.start (r.end - r.start)

abbrev pub shown_entry : (s : List ℕ) (j : ℕ) → List ℕ
shown_entry s j =
    bytes 4 (shown_payload s j).version
    ++ (shown_payload s j).type_guid
    ++ ((shown_payload s j).image_index ∷ 0 ∷ 0 ∷ 0 ∷ [])
    ++ bytes 8 (shown_payload s j).hardware_instance
    ++ told_part (image_part s (located s (driver_count s + j)))
    ++ told_part (vendor_code_part s (located s (driver_count s + j)))

-- the capsule itself in place of all three slices, with tables of the parts and values that are shown of it
abbrev pub lent_again : (s : List ℕ) → Lent
lent_again s =
    lent (flags s) s (joined (driver_count s) (λ k. told_part (item_part (located s k)))) s s (joined (payload_count s) (shown_entry s))

-- as the types of flags and tables have it
pub record Typed (x : Lent) : Type 0 where
  pub flags : x.flags < 2 ^ 32
  pub driver_table : Bytes x.driver_table
  pub payload_table : Bytes x.payload_table

-- what is packed into n bytes, s, from x
pub record PackedTaken (s : List ℕ) (x : Lent) : Type 0 where
  pub taken : Taken s
  pub same : Same (contents_of x) (shown_contents s)
  pub placed : Placed s (contents_of x)
  pub tightly : tight s ≡ true

pub record RoundTrip : Type 0 where
  -- C34: what the packer packs, n bytes at the front of new, the reader takes; it shows every part and value as given,
  -- at its place; and it is tight
  pub packed_taken : (x : Lent) (out new : List ℕ) (n : ℕ) → Typed x → ◌≡◌ {A = Reply ℕ × List ℕ} (packed x out) (gives n, new)
      → PackedTaken (take n new) x
  -- C35: a tight capsule that the reader takes is byte for byte what the packer makes of any x whose parts lie inside
  -- and that is the same as what is shown, in any slice with room
  pub taken_packed : (s out : List ℕ) (x : Lent) → Bytes s → Taken s → tight s ≡ true → parts_inside x ≡ true
      → Same (contents_of x) (shown_contents s) → length s ≤ length out
      → ◌≡◌ {A = Reply ℕ × List ℕ} (packed x out) (gives (length s), put out 0 s)
  -- C36: such is the capsule itself, with tables of what is shown of it
  pub read_again : (s : List ℕ) → Bytes s → Taken s
      → (parts_inside (lent_again s) ≡ true) × Same (contents_of (lent_again s)) (shown_contents s) × Typed (lent_again s)
  -- C37: so a tight capsule, read and packed again with its own flags, counts and payload versions, is the same bytes
  pub packed_again : (s out : List ℕ) → Bytes s → Taken s → tight s ≡ true → length s ≤ length out
      → ◌≡◌ {A = Reply ℕ × List ℕ} (packed (lent_again s) out) (gives (length s), put out 0 s)
