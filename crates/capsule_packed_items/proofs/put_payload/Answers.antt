-- `put_payload` meets its contract: the header, then the image and the vendor code behind it. Assumes nothing.
use mathlib.Core.Path.{refl, ◌∙◌, ap}
use native.Mathlib.Omega.{arith}
use Rattle.capsule_payloads.specs.Payload.{header_length}
use Rattle.capsule_contents.specs.Given.{given}
use Rattle.capsule_packed_items.proofs.Payloads.{image_within, code_within, payload_fits, payload_put}
use Rattle.capsule_packed_items.proofs.put_payload.Goals as goal

pub overflow_add-image_at : goal.overflow_add-image_at
overflow_add-image_at c =
    let a = c.args in
    let long = c.header_length.ensures ∙ ap header_length c.read32.ensures in
    omega (arith, payload_fits (given a.lending.now) a.j a.at a.out.now c.requires _ _ long refl)

pub put_part-requires : goal.put_part-requires
put_part-requires c =
    let a = c.args in
    let long = c.header_length.ensures ∙ ap header_length c.read32.ensures in
    let x = given a.lending.now in (
      omega (arith, c.requires.named),
      image_within x a.j a.at a.out.now c.requires,
      omega (arith, payload_fits x a.j a.at a.out.now c.requires _ _ long refl),
    )

pub overflow_add-code_at : goal.overflow_add-code_at
overflow_add-code_at c =
    let a = c.args in
    let long = c.header_length.ensures ∙ ap header_length c.read32.ensures in
    omega (arith, payload_fits (given a.lending.now) a.j a.at a.out.now c.requires _ _ long c.read64.ensures)

pub put_part-requires-2 : goal.put_part-requires-2
put_part-requires-2 c =
    let a = c.args in
    let long = c.header_length.ensures ∙ ap header_length c.read32.ensures in
    let x = given a.lending.now in (
      omega (arith, c.requires.named),
      code_within x a.j a.at a.out.now c.requires,
      omega (arith, payload_fits x a.j a.at a.out.now c.requires _ _ long c.read64.ensures),
    )

pub returns : goal.returns
returns c =
    let a = c.args in
    payload_put (given a.lending.now) a.j a.at a.out.now c.requires _ _
    (c.header_length.ensures ∙ ap header_length c.read32.ensures) c.read64.ensures
    c.put_payload_header.ensures c.put_part.ensures c.put_part-2.ensures
