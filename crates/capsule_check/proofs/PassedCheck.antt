-- What a faultless capsule has. Assumes nothing.
use mathlib.Core.Path.{◌≡◌, refl}
use mathlib.Core.Bool.{Bool, true, false}
use mathlib.Core.List.{List}
use Prim.Native.Nat.{ℕ}
use native.Mathlib.Omega.{arith}
use lib.Dec.{leb}
use lib.ListN.{length}
use Rattle.refusals.specs.declared.Refusal.{Refusal}
use Rattle.refusals.specs.declared.Refusal.TheVariants.{CapsuleShort, CapsuleSizes, CapsuleFlags, CapsuleGuid, CapsuleBody, CapsulePayload}
use Rattle.std.specs.Prelude.{Ok}
use Rattle.capsule_header.specs.Header.{sizes_right, flags, flags_right, guid_right, body}
use Rattle.capsule_body.specs.Body.{body_right}
use Rattle.capsule_payloads.specs.Payload.{payloads_right}
use Rattle.capsule_check.specs.Verdict.{unless, verdict}
use Rattle.refusal_order.specs.Decide.{Verdict}

-- a test that did not refuse
passed : (t : Bool) (r : Refusal) (v : Verdict) → unless t r v ≡ Ok tt → (t ≡ true) × (v ≡ Ok tt)
passed true r v e = (refl, e)
passed false r v e =
    let z : ◌≡◌ {A = ℕ} 0 1 = cc in
    absurd (omega arith)

pub record Sound (s : List ℕ) : Type 0 where
  pub sizes : sizes_right s ≡ true
  pub flagged : flags_right (flags s) ≡ true
  pub guid : guid_right s ≡ true
  pub offsets : body_right (body s) ≡ true
  pub payloads : payloads_right (body s) ≡ true

module _ (s : List ℕ) where
  at_15 : Verdict
  at_15 = unless (payloads_right (body s)) CapsulePayload (Ok tt)

  at_14 : Verdict
  at_14 = unless (body_right (body s)) CapsuleBody at_15

  at_13 : Verdict
  at_13 = unless (guid_right s) CapsuleGuid at_14

  at_12 : Verdict
  at_12 = unless (flags_right (flags s)) CapsuleFlags at_13

  at_11 : Verdict
  at_11 = unless (sizes_right s) CapsuleSizes at_12

  pub faultless : verdict s ≡ Ok tt → Sound s
  unfolding verdict at_11 at_12 at_13 at_14 at_15
  faultless e =
      let p10 = passed (leb 28 (length s)) CapsuleShort at_11 e in
      let p11 = passed (sizes_right s) CapsuleSizes at_12 p10.1 in
      let p12 = passed (flags_right (flags s)) CapsuleFlags at_13 p11.1 in
      let p13 = passed (guid_right s) CapsuleGuid at_14 p12.1 in
      let p14 = passed (body_right (body s)) CapsuleBody at_15 p13.1 in
      let p15 = passed (payloads_right (body s)) CapsulePayload (Ok tt) p14.1 in
      record { sizes = p11.0; flagged = p12.0; guid = p13.0; offsets = p14.0; payloads = p15.0 }
