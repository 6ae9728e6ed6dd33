-- `put_payload_header` meets its contract: the version, the type GUID, three words, and with any version but 1 the
-- hardware instance. Assumes nothing.
use mathlib.Core.Path.{sym, ◌∙◌}
use native.Mathlib.Omega.{arith}
use Rattle.capsule_contents.specs.Given.{given}
use Rattle.capsule_packed_items.proofs.Payloads.{header_whole, header_more}
use Rattle.capsule_packed_items.proofs.put_payload_header.Goals as goal

pub returns-then-version-ne1 : goal.returns-then-version-ne1
returns-then-version-ne1 c =
    let a = c.args in
    header_more (given a.lending.now) a.j a.at a.out.now c.requires _ _ _
    (rw c.read32-version.ensures at c.write32.ensures) c.write_guid.ensures c.write_words.ensures
    c.from-index.ensures (omega arith) c.read64-image.ensures c.read64-code.ensures
    (λ e. c.if-version-ne1.true (c.read32-version.ensures ∙ e)) (rw c.read64.ensures at c.write64.ensures)

pub returns-else-version-ne1 : goal.returns-else-version-ne1
returns-else-version-ne1 c =
    let a = c.args in
    header_whole (given a.lending.now) a.j a.at a.out.now c.requires _ _ _
    (rw c.read32-version.ensures at c.write32.ensures) c.write_guid.ensures c.write_words.ensures
    c.from-index.ensures (omega arith) c.read64-image.ensures c.read64-code.ensures
    (sym c.read32-version.ensures ∙ c.if-version-ne1.false)
