-- `payloads_right` meets its contract: every payload is right. Assumes nothing.
use borrow.Author.Rules.{rules}
use native.Mathlib.Omega.{arith}
use Rattle.capsule_body.specs.Body.{payloads}
use Rattle.capsule_payloads.specs.Payload.{payload_at_right, payloads_right}
use Rattle.capsule_body.proofs.Ranged.{all_from_Range}
use Rattle.capsule_payloads.proofs.payloads_right.Goals as goal

pub returns : goal.returns
unfolding payloads_right payload_at_right
returns c =
    let b = c.args.b.now in
    all_from_Range (payload_at_right b) (payloads b) c.all.ensures.ran (omega arith) (λ x t q k. search rules)
