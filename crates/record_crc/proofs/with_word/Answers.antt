-- `with_word` meets its contract: the word's bytes folded into the register. Assumes nothing.
use mathlib.Core.Path.{◌≡◌, ◌∙◌}
use Prim.Native.Nat.{ℕ, ◌/◌, ◌^◌}
use native.Mathlib.Omega.{arith}
use Rattle.std.specs.Int.{w32, to_le_bytes}
use Rattle.std.proofs.Common.{rules}
use Rattle.std.proofs.lemmas.Iterator.{YieldsList-from_slice}
use Rattle.std.proofs.lemmas.Iterator.Consumers.{fold_from_yields_List}
use Rattle.fields.specs.Number.{bytes}
use Rattle.record_crc.specs.Crc.{with_byte}
use Rattle.record_crc.proofs.Register.{with_bytes_fold}
use Rattle.record_crc.proofs.with_word.Goals as goal

-- the word's bytes, as `to_le_bytes` gives them
low_first : (w : ℕ) → to_le_bytes w32 w ≡ bytes 4 w
unfolding bytes
low_first w =
    let p : w / 256 ^ 2 ≡ w / 256 / 256 = omega arith in
    let q : w / 256 ^ 3 ≡ w / 256 / 256 / 256 = omega arith in
    rw (p, q)

pub returns : goal.returns
returns c =
    let w = bytes 4 c.args.w in
    fold_from_yields_List _ with_byte c.args.r c.fold.result c.fold.ensures.ran
    (YieldsList-from_slice w (c.iter.ensures.rest ∙ c.to_le_bytes.ensures ∙ low_first c.args.w)) (λ a x b q k. search rules)
    ∙ with_bytes_fold c.args.r w
