-- The bytes of a payload that was packed show what it was packed from. Assumes nothing.
use mathlib.Core.Path.{◌≡◌, refl, sym, ap, ◌∙◌}
use mathlib.Core.Bool.{Bool, true, false, cond}
use mathlib.Core.List.{List, [], ◌∷◌, ◌++◌, append_assoc}
use Prim.Native.Nat.{ℕ, ◌+◌, ◌^◌, ◌<◌}
use native.Mathlib.Omega.{arith}
use borrow.Author.Tests.{le-leb, eq-eqb}
use lib.Dec.{eqb}
use lib.ListN.{length, get_or, take, drop}
use lib.Seq.{take_at, get_or-drop}
use Rattle.fields.specs.Number.{le, bytes}
use Rattle.fields.specs.Guid.{guid}
use Rattle.fields.proofs.Number.{length_bytes}
use Rattle.fields.proofs.Words.{number_at}
use Rattle.fields.proofs.Stacked.{behind}
use Rattle.capsule_payloads.specs.Payload.{version, type_guid, image_index, image_size, vendor_code_size, hardware_instance}
use Rattle.capsule_payloads.specs.Payload.{header_length, image_start, vendor_code_end, payload_right}
use Rattle.capsule_contents.specs.Contents.{PayloadContents, payload_header_bytes, payload_bytes}
use Rattle.proof_packing.specs.Tight.{payload_tight}
use Rattle.capsule_contents.proofs.Lengths.{payload_length}
use Rattle.proof_packing.proofs.Good.{GoodPayload, version_small}

module _ (p : PayloadContents) (good : GoodPayload p) (small : length (payload_bytes p) < 2 ^ 32) where
  abbrev q : List ℕ
  q = payload_bytes p

  -- what stands behind each field, from the last to the first
  abbrev parts : List ℕ
  parts = p.image ++ p.vendor_code

  abbrev instance : List ℕ
  instance = cond (eqb p.version 1) [] (bytes 8 p.hardware_instance)

  abbrev code : List ℕ
  code = bytes 4 (length p.vendor_code)

  abbrev image : List ℕ
  image = bytes 4 (length p.image)

  abbrev index : List ℕ
  index = p.image_index ∷ 0 ∷ 0 ∷ 0 ∷ []

  at_0 : drop 0 q ≡ bytes 4 p.version ++ (p.type_guid ++ (index ++ (image ++ (code ++ (instance ++ parts)))))
  unfolding payload_bytes payload_header_bytes
  at_0 = simp append_assoc

  at_4 : drop 4 q ≡ p.type_guid ++ (index ++ (image ++ (code ++ (instance ++ parts))))
  at_4 = behind q (bytes 4 p.version) _ 0 4 at_0 (length_bytes 4 p.version)

  at_20 : drop 20 q ≡ index ++ (image ++ (code ++ (instance ++ parts)))
  at_20 = behind q p.type_guid _ 4 16 at_4 good.whole

  at_24 : drop 24 q ≡ image ++ (code ++ (instance ++ parts))
  at_24 = behind q index _ 20 4 at_20 refl

  at_28 : drop 28 q ≡ code ++ (instance ++ parts)
  at_28 = behind q image _ 24 4 at_24 (length_bytes 4 (length p.image))

  at_32 : drop 32 q ≡ instance ++ parts
  at_32 = behind q code _ 28 4 at_28 (length_bytes 4 (length p.vendor_code))

  pub version_read : version q ≡ p.version
  unfolding version
  version_read = number_at 4 q 0 p.version _ (version_small p.version good.version) at_0

  pub guid_read : type_guid q ≡ p.type_guid
  unfolding type_guid guid
  guid_read = ap (λ (l : List ℕ). take 16 l) at_4 ∙ take_at p.type_guid _ 16 good.whole

  byte : (k : ℕ) → get_or q (20 + k) 0 ≡ get_or (index ++ (image ++ (code ++ (instance ++ parts)))) k 0
  byte k = sym (get_or-drop 20 q k 0) ∙ ap (λ (l : List ℕ). get_or l k 0) at_20

  pub index_read : image_index q ≡ p.image_index
  unfolding image_index
  index_read = byte 0

  -- the three reserved bytes
  reserved : le 3 q 21 ≡ 0
  unfolding le
  reserved = rw (byte 1, byte 2, byte 3)

  pub image_size_read : image_size q ≡ length p.image
  unfolding image_size
  image_size_read = number_at 4 q 24 (length p.image) _ (omega (arith, payload_length p good.whole)) at_24

  pub code_size_read : vendor_code_size q ≡ length p.vendor_code
  unfolding vendor_code_size
  code_size_read = number_at 4 q 28 (length p.vendor_code) _ (omega (arith, payload_length p good.whole)) at_28

  pub instance_read : hardware_instance q ≡ p.hardware_instance
  unfolding hardware_instance
  instance_read = rw version_read (go (eqb p.version 1) refl)
    where
      go : (t : Bool) → eqb p.version 1 ≡ t → cond t 0 (le 8 q 32) ≡ p.hardware_instance
      go true e = sym (good.none e)
      go false e = number_at 8 q 32 p.hardware_instance parts good.wide (rw e at at_32)

  -- where its parts lie in it, and that they fill it
  pub start_read : image_start q ≡ header_length p.version
  start_read = ap header_length version_read

  pub end_read : vendor_code_end q ≡ length q
  end_read = omega (arith, start_read, image_size_read, code_size_read, payload_length p good.whole)

  pub payload_right_lem : payload_right q ≡ true
  unfolding payload_right
  payload_right_lem = rw (le-leb (vendor_code_end q) (length q) (omega (arith, end_read)), version_read, good.version)

  pub payload_tight_lem : payload_tight q ≡ true
  unfolding payload_tight
  payload_tight_lem = rw (eq-eqb (vendor_code_end q) (length q) end_read, reserved)
