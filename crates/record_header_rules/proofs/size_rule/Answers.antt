-- `size_rule` meets its contract: a byte is below 256, a 16-bit number below 65,536. Assumes nothing.
use Prim.Native.Nat.{◌*◌, ◌≤◌}
use native.Mathlib.Omega.{arith}
use Rattle.fields.specs.Number.{le}
use Rattle.record_layout.proofs.Sizes.{at_most}
use Rattle.record_header_rules.proofs.size_rule.Goals as goal
use Rattle.record_header_rules.proofs.size_rule.Goals.{After-entry_size}

product : (c : After-entry_size) → c.image_count.result * c.entry_size.result ≤ 65535 * 6152
unfolding le
product c =
    let k = c.type_inv.r in
    at_most c.image_count.result c.entry_size.result 65535 6152 (omega (arith, c.image_count.ensures, k 34, k 35))
    (omega (arith, c.entry_size.ensures, c.bank_count.ensures, k 32))

pub overflow_mul-image_count : goal.overflow_mul-image_count
overflow_mul-image_count c = omega (arith, product (goal.at.overflow_mul-image_count c).After-entry_size)

pub overflow_add-image_count : goal.overflow_add-image_count
overflow_add-image_count c = omega (arith, product (goal.at.overflow_add-image_count c).After-entry_size)
