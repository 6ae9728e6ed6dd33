-- A capsule packed by its bytes: one driver and one payload of version 2, or of version 1, or no item; and each refusal
-- of the packer by its number, at both ends of its limit and before those that come later. 56 would take a list of 2^32
-- bytes to work out: its limit stands alone. Assumes nothing.
use Rattle.std.specs.Prelude.{◌≡◌, refl, true, false, List, [], ◌∷◌, ◌++◌, ℕ, ◌≤◌, ltb, length, take, replicate}
use Rattle.std.proofs.Common.{le-ltb}
use Rattle.fields.specs.Number.{le, bytes, put}
use Rattle.fields.specs.Guid.{guid}
use Rattle.fields.specs.Joined.{joined}
use Rattle.refusal_order.specs.Decide.{passed, refusal, decide, Reply, gives, refuses}
use Rattle.capsule_header.specs.Header.{flags_right}
use Rattle.capsule_body.specs.Body.{all}
use Rattle.capsule_payloads.specs.Payload.{version_right}
use Rattle.capsule_contents.specs.Contents.{payload_header_bytes, payload_bytes, item_bytes, offset_of}
use Rattle.capsule_contents.specs.Contents.{body_bytes, header_bytes, capsule_bytes}
use Rattle.capsule_contents.specs.Lent.{Lent, lent}
use Rattle.capsule_contents.specs.Contents.{size_limit}
use Rattle.capsule_packing_rules.specs.Rules.{contents_tests, size_tests}
use Rattle.capsule_packer.specs.Packer.{packer_tests, packed_by, packed}
use Rattle.proof_packing.specs.RoundTrip.{part_bytes}

-- a payload's entry: type GUID 16 times 7, index 5; the three bytes behind the index may be anything
abbrev pub entry : (version instance image_size codeSize : ℕ) → List ℕ
entry version instance image_size codeSize =
    bytes 4 version ++ replicate 16 7 ++ (5 ∷ 1 ∷ 2 ∷ 3 ∷ []) ++ bytes 8 instance ++ part_bytes 0 image_size ++ part_bytes 0 codeSize

-- the bytes 1 2 3 of a slice of five are the driver, a1 a2 the image, b1 the vendor code
abbrev pub example : (flags : ℕ) (driver_table payload_table : List ℕ) → Lent
example flags driver_table payload_table =
    lent flags (9 ∷ 1 ∷ 2 ∷ 3 ∷ 9 ∷ []) driver_table (0xa1 ∷ 0xa2 ∷ []) (0xb1 ∷ []) payload_table

-- the header with a size, persist and reset set; version 1, one driver, one payload, their offsets, the driver
abbrev pub front : (size : ℕ) → List ℕ
front size =
    0xed ∷ 0xd5 ∷ 0xcb ∷ 0x6d ∷ 0x2d ∷ 0xe8 ∷ 0x44 ∷ 0x4c ∷ 0xbd ∷ 0xa1 ∷ 0x71 ∷ 0x94 ∷ 0x19 ∷ 0x9a ∷ 0xd9 ∷ 0x2a ∷
    28 ∷ 0 ∷ 0 ∷ 0 ∷ 0 ∷ 0 ∷ 5 ∷ 0 ∷ size ∷ 0 ∷ 0 ∷ 0 ∷
    1 ∷ 0 ∷ 0 ∷ 0 ∷ 1 ∷ 0 ∷ 1 ∷ 0 ∷ 24 ∷ 0 ∷ 0 ∷ 0 ∷ 0 ∷ 0 ∷ 0 ∷ 0 ∷ 27 ∷ 0 ∷ 0 ∷ 0 ∷ 0 ∷ 0 ∷ 0 ∷ 0 ∷ 1 ∷ 2 ∷ 3 ∷ []

-- the payload's header up to the sizes, its parts
abbrev pub payload : (version : ℕ) → List ℕ
payload version =
    version ∷ 0 ∷ 0 ∷ 0 ∷ 7 ∷ 7 ∷ 7 ∷ 7 ∷ 7 ∷ 7 ∷ 7 ∷ 7 ∷ 7 ∷ 7 ∷ 7 ∷ 7 ∷ 7 ∷ 7 ∷ 7 ∷ 7 ∷ 5 ∷ 0 ∷ 0 ∷ 0 ∷ 2 ∷ 0 ∷ 0 ∷ 0 ∷
    1 ∷ 0 ∷ 0 ∷ 0 ∷ []

abbrev pub parts : List ℕ
parts = 0xa1 ∷ 0xa2 ∷ 0xb1 ∷ []

-- what is packed into any slice that has room
abbrev pub Packs : Lent → (capsule : List ℕ) → Type 0
Packs x capsule =
    (out : List ℕ) → length capsule ≤ length out → ◌≡◌ {A = Reply ℕ × List ℕ} (packed x out) (gives (length capsule), put out 0 capsule)

-- C28 to C30: with hardware instance 9 in version 2, and none in version 1; no items at all
pub record PackedExamples : Type 0 where
  pub version2 : Packs (example 0x50000 (part_bytes 1 3) (entry 2 9 2 1))
      (front 98 ++ payload 2 ++ (9 ∷ 0 ∷ 0 ∷ 0 ∷ 0 ∷ 0 ∷ 0 ∷ 0 ∷ []) ++ parts)
  pub version1 : Packs (example 0x50000 (part_bytes 1 3) (entry 1 0 2 1)) (front 90 ++ payload 1 ++ parts)
  pub empty : Packs (example 0 [] [])
      (0xed ∷ 0xd5 ∷ 0xcb ∷ 0x6d ∷ 0x2d ∷ 0xe8 ∷ 0x44 ∷ 0x4c ∷ 0xbd ∷ 0xa1 ∷ 0x71 ∷ 0x94 ∷ 0x19 ∷ 0x9a ∷ 0xd9 ∷ 0x2a ∷
      28 ∷ 0 ∷ 0 ∷ 0 ∷ 0 ∷ 0 ∷ 0 ∷ 0 ∷ 36 ∷ 0 ∷ 0 ∷ 0 ∷ 1 ∷ 0 ∷ 0 ∷ 0 ∷ 0 ∷ 0 ∷ 0 ∷ 0 ∷ [])

pub packed_examples : PackedExamples
unfolding packed packed_by packer_tests size_tests contents_tests decide all flags_right version_right le bytes guid joined
    payload_header_bytes payload_bytes item_bytes offset_of body_bytes header_bytes capsule_bytes
packed_examples =
    record {
      version2 = λ out room. rw (le-ltb (length out) 98 room);
      version1 = λ out room. rw (le-ltb (length out) 90 room);
      empty = λ out room. rw (le-ltb (length out) 36 room);
    }

-- n drivers of a byte
abbrev pub many : (n : ℕ) → List ℕ
many n = joined n (λ k. part_bytes 0 1)

-- a driver and an empty one; a payload with a part past its slice, or with an instance that version 1 can't have, and
-- one of version 3
abbrev pub two_drivers : List ℕ
two_drivers = part_bytes 1 3 ++ part_bytes 0 0

abbrev pub past_and_three : List ℕ
past_and_three = entry 1 9 3 1 ++ entry 3 9 2 1

abbrev pub instance_and_three : List ℕ
instance_and_three = entry 1 9 2 1 ++ entry 3 9 2 1

-- the packer's decision
abbrev pub Refuses : Lent → (room number : ℕ) → Type 0
Refuses x room number = decide (packer_tests x room) ≡ refusal number []

abbrev pub Passes : Lent → (room : ℕ) → Type 0
Passes x room = decide (packer_tests x room) ≡ passed

pub record RefusedExamples : Type 0 where
  -- N50, with every later fault but 56
  pub items_64 : Passes (example 0 (many 64) []) 612
  pub items_65 : Refuses (example 0x40000 (many 62 ++ part_bytes 0 0) past_and_three) 0 50
  -- N51, with every later fault but 56, also of an item before; sums don't wrap; an empty part at the end and behind it
  pub part_end : Passes (example 0 (part_bytes 4 1) []) 45
  pub part_past : Refuses (example 0x40000 two_drivers past_and_three) 0 51
  pub driver_past : Refuses (example 0 (part_bytes 4 2) []) 1000 51
  pub part_wraps : Refuses (example 0 (part_bytes 18446744073709551615 2) []) 1000 51
  pub empty_at_end : Refuses (example 0 (part_bytes 5 0) []) 1000 52
  pub empty_past_end : Refuses (example 0 (part_bytes 6 0) []) 1000 51
  pub no_image : Passes (example 0 [] (entry 2 9 0 0)) 84
  pub code_past : Refuses (example 0 [] (entry 2 9 0 2)) 1000 51
  -- N52 to N55, with every later fault but 56
  pub empty_driver : Refuses (example 0x40000 two_drivers instance_and_three) 0 52
  pub version_0 : Refuses (example 0x40000 [] (entry 1 9 2 1 ++ entry 0 9 2 1)) 0 53
  pub version_3 : Refuses (example 0x40000 [] instance_and_three) 0 53
  pub instance_9 : Refuses (example 0x40000 [] (entry 1 9 2 1)) 0 54
  pub reset_alone : Refuses (example 0x40000 [] (entry 1 0 2 1)) 0 55
  -- N56, by its limit alone
  pub size_told : ltb size_limit 4294967295 ≡ false
  pub size_past : ltb size_limit 4294967296 ≡ true
  -- N57
  pub room_98 : Passes (example 0x50000 (part_bytes 1 3) (entry 2 9 2 1)) 98
  pub room_97 : Refuses (example 0x50000 (part_bytes 1 3) (entry 2 9 2 1)) 97 57
  -- C27: a table's rest that is no entry
  pub rest_ignored : Passes (example 0 (take 15 (part_bytes 9 9)) (take 63 (entry 3 9 3 1))) 36
  -- C32: with a refusal every byte of the output slice stays
  pub nothing_written : (out : List ℕ)
      → ◌≡◌ {A = Reply ℕ × List ℕ} (packed (example 0x40000 (part_bytes 1 3) (entry 2 9 2 1)) out) (refuses 55 [], out)

pub refused_examples : RefusedExamples
unfolding packed packed_by packer_tests size_tests contents_tests decide all flags_right version_right le bytes guid joined
    payload_header_bytes payload_bytes item_bytes offset_of body_bytes header_bytes capsule_bytes
refused_examples =
    record {
      items_64 = refl;
      items_65 = refl;
      part_end = refl;
      part_past = refl;
      driver_past = refl;
      part_wraps = refl;
      empty_at_end = refl;
      empty_past_end = refl;
      no_image = refl;
      code_past = refl;
      empty_driver = refl;
      version_0 = refl;
      version_3 = refl;
      instance_9 = refl;
      reset_alone = refl;
      size_told = refl;
      size_past = refl;
      room_98 = refl;
      room_97 = refl;
      rest_ignored = refl;
      nothing_written = λ out. refl;
    }
