-- `crc32` meets its contract: the bytes folded into the register. Assumes nothing.
use mathlib.Core.Path.{ap, ◌∙◌}
use Rattle.std.proofs.Common.{rules}
use Rattle.std.proofs.lemmas.Iterator.{YieldsList-from_slice}
use Rattle.std.proofs.lemmas.Iterator.Consumers.{fold_from_yields_List}
use Prim.Native.Nat.{ℕ}
use lib.Bits.{bit_xor}
use Rattle.record_crc.specs.Crc.{with_byte, all_ones, crc32_of}
use Rattle.record_crc.proofs.Register.{with_bytes_fold}
use Rattle.record_crc.proofs.crc32.Goals as goal

pub returns : goal.returns
unfolding crc32_of
returns c =
    let s = c.args.s.now in
    ap (λ (x : ℕ). bit_xor x all_ones)
    (fold_from_yields_List _ with_byte all_ones c.fold.result c.fold.ensures.ran (YieldsList-from_slice s c.iter.ensures.rest)
    (λ a x b q k. search rules)
    ∙ with_bytes_fold all_ones s)
