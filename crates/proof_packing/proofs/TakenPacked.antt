-- C35: a tight capsule that the reader takes is what the packer makes of all that is the same as what is shown of it,
-- since no test of the packer finds a fault. s is the bytes of the capsule, x what is lent. Assumes nothing.
use mathlib.Core.Path.{◌≡◌, refl, ap, ◌∙◌}
use mathlib.Core.Bool.{Bool, true, false, not, cond, ◌||◌}
use mathlib.Core.List.{List}
use Prim.Native.Nat.{ℕ, ◌+◌, ◌-◌, ◌≤◌, ◌<◌}
use native.Mathlib.Omega.{arith}
use borrow.Author.Tests.{ne_eqb, le-ltb}
use lib.Dec.{eqb, leb}
use lib.ListN.{length, drop, length-take}
use Rattle.fields.specs.Number.{Bytes, le, put}
use Rattle.fields.proofs.Tests.{both}
use Rattle.fields.proofs.Part.{part_length}
use Rattle.refusal_order.specs.Decide.{passed, decide, Reply, gives}
use Rattle.capsule_header.specs.Header.{flags_right, body}
use Rattle.capsule_body.specs.Body.{drivers, payloads, offset, item_end, item}
use Rattle.capsule_body.proofs.Body.{all_each, few_items, item_in}
use Rattle.capsule_payloads.specs.Payload.{version, version_right, hardware_instance, payload_right, vendor_code_end}
use Rattle.capsule_contents.specs.Contents.{PayloadContents, capsule_bytes, items_of, size_limit}
use Rattle.capsule_contents.specs.Lent.{Lent, contents_of, drivers_in, payloads_in, start_at, length_at, driver_at, version_given}
use Rattle.capsule_packing_rules.specs.Rules.{parts_inside, driver_filled, version_at_right, instance_right, capsule_size}
use Rattle.capsule_packing_rules.specs.Rules.{contents_tests, size_tests}
use Rattle.capsule_packer.specs.Packer.{packer_tests, packed_by, packed}
use Rattle.proof_packing.specs.Tight.{tight}
use Rattle.proof_packing.specs.RoundTrip.{Taken, shown_contents, Same}
use Rattle.proof_packing.proofs.PayloadAgain.{payload_in}
use Rattle.proof_packing.proofs.Shown.{sound_of, length_low}
use Rattle.proof_packing.proofs.Shown.{drivers_shown, payloads_shown, driver_shown, right_shown, payload_shown}
use Rattle.proof_packing.proofs.CapsuleAgain.{capsule_again}

-- version 1 shows hardware instance 0
instance_shown : (p : List ℕ) → (not (eqb (version p) 1) || eqb (hardware_instance p) 0) ≡ true
unfolding hardware_instance
instance_shown p = go (eqb (version p) 1)
  where
    go : (t : Bool) → (not t || eqb (cond t 0 (le 8 p 32)) 0) ≡ true
    go true = refl
    go false = refl

module _ (s : List ℕ) (x : Lent) (taken : Taken s) (same : Same (contents_of x) (shown_contents s)) where
  drivers_few : drivers_in x.driver_table ≡ drivers (body s)
  drivers_few = same.drivers ∙ drivers_shown s taken

  payloads_few : payloads_in x.payload_table ≡ payloads (body s)
  payloads_few = same.payloads ∙ payloads_shown s taken

  -- a driver of no byte would show none
  filled : (k : ℕ) → k < drivers_in x.driver_table → driver_filled x.driver_table k ≡ true
  unfolding item
  filled k lt =
      let b = body s in
      let n = length_at x.driver_table (driver_at k) in
      let a = start_at x.driver_table (driver_at k) in
      let i = item_in b (sound_of s taken).offsets k (omega (arith, drivers_few)) in
      let own = ap length (same.driver k lt ∙ driver_shown s taken k (omega (arith, drivers_few))) in
      let some : n ≡ 0 → ⊥ =
      λ z.
      omega (arith, own, part_length b (offset b k) (item_end b k) i.1, length-take (a + n - a) (drop a x.driver_slice)) in
      rw (ne_eqb n 0 some)

  -- a payload's values are those of its item
  module _ (j : ℕ) (lt : j < payloads_in x.payload_table) where
    abbrev p : List ℕ
    p = item (body s) (drivers (body s) + j)

    in_body : j < payloads (body s)
    in_body = omega (arith, payloads_few)

    given : (contents_of x).payload j ≡ payload_in p
    given = same.payload j lt ∙ payload_shown s taken j in_body

    version_given_lem : version_given x.payload_table j ≡ version p
    version_given_lem = ap (λ (q : PayloadContents). q.version) given

    version_right_lem : version_at_right x.payload_table j ≡ true
    unfolding payload_right
    version_right_lem =
        rw version_given_lem (both (version_right (version p)) (leb (vendor_code_end p) (length p)) (right_shown s taken j in_body)).0

    instance_right_lem : instance_right x.payload_table j ≡ true
    instance_right_lem = rw (version_given_lem, ap (λ (q : PayloadContents). q.hardware_instance) given) (instance_shown p)

  module _ (small : Bytes s) (same_bytes : capsule_bytes (contents_of x) ≡ s) (inside : parts_inside x ≡ true) where
    tests_pass : (room : ℕ) → length s ≤ room → decide (packer_tests x room) ≡ passed
    unfolding packer_tests size_tests contents_tests decide
    tests_pass room enough =
        let d = drivers_few in
        let p = payloads_few in
        let size = ap length same_bytes in
        let flags : flags_right x.flags ≡ true = rw same.flags (sound_of s taken).flagged in
        rw (
          le-ltb 64 (items_of (contents_of x)) (omega (arith, few_items (body s) (sound_of s taken).offsets)),
          inside,
          all_each (driver_filled x.driver_table) (drivers_in x.driver_table) filled,
          all_each (version_at_right x.payload_table) (payloads_in x.payload_table) version_right_lem,
          all_each (instance_right x.payload_table) (payloads_in x.payload_table) instance_right_lem,
          flags,
          le-ltb size_limit (capsule_size x) (omega (arith, length_low s taken small)),
          le-ltb room (capsule_size x) (omega arith),
        )

pub taken_packed : (s out : List ℕ) (x : Lent) → Bytes s → Taken s → tight s ≡ true → parts_inside x ≡ true
    → Same (contents_of x) (shown_contents s) → length s ≤ length out
    → ◌≡◌ {A = Reply ℕ × List ℕ} (packed x out) (gives (length s), put out 0 s)
unfolding packed packed_by
taken_packed s out x small taken tightly inside same room =
    let bytes = capsule_again s small taken tightly (contents_of x) same in
    rw (tests_pass s x taken same small bytes inside (length out) room, bytes)
