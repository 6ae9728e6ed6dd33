-- `write_words` meets its contract. The loop's invariant: the first i numbers are put. Assumes nothing.
use Prim.Native.Nat.{◌+◌, ◌*◌, ◌≤◌}
use mathlib.Core.Path.{refl, ap, ◌∙◌}
use native.Mathlib.Omega.{arith}
use lib.ListN.{length}
use Rattle.fields.proofs.Bytes.{word_length}
use Rattle.fields.proofs.Words.{words_none, words_next, words_whole}
use Rattle.field_writes.proofs.write_words.Goals as goal

pub loop-i-init : goal.loop-i-init
loop-i-init c =
    let a = c.args in
    (omega arith, refl, words_none a.s.now a.at a.words.now c.requires)

pub write32-requires : goal.write32-requires
write32-requires c = omega (arith, c.loop-i.invariant.1, c.requires)

pub loop-i-preserved : goal.loop-i-preserved
loop-i-preserved c =
    let a = c.args in
    let e = words_next a.s.now a.at a.words.now c.requires c.loop-i.i (omega arith) c.loop-i.invariant.2 c.write32.ensures in
    let fits : a.at + 4 * c.loop-i.i + 4 ≤ length c.loop-i.s = omega (arith, c.loop-i.invariant.1, c.requires) in
    (omega arith, ap length c.write32.ensures ∙ word_length c.loop-i.s (a.at + 4 * c.loop-i.i) _ fits ∙ c.loop-i.invariant.1, e)

pub shape_of-s : goal.shape_of-s
shape_of-s c = c.loop-i.invariant.1

pub returns : goal.returns
returns c =
    let a = c.args in
    words_whole a.s.now a.at a.words.now c.requires c.loop-i.i (omega arith) c.loop-i.invariant.2
