-- `put_word` meets its contract. Assumes nothing.
use Prim.Native.Nat.{◌+◌}
use lib.ListN.{length, drop, get_or}
use mathlib.Core.Path.{◌≡◌, refl}
use native.Mathlib.Omega.{arith}
use Rattle.std.proofs.lemmas.List.{drop_all}
use Rattle.report_text.proofs.Writing.{wrote_none, wrote_one, left_all, left_more, word_next}
use Rattle.report_text.proofs.Text.put_word.Goals as goal

pub loop-i-init : goal.loop-i-init
loop-i-init c = (refl, refl, left_all c.requires)

pub overflow_add-self : goal.overflow_add-self
overflow_add-self c = omega (arith, c.requires, c.loop-i.invariant.1)

pub bounds-self-self : goal.bounds-self-self
bounds-self-self c = omega (arith, c.requires, c.loop-i.invariant.1, c.loop-i.invariant.2.kept)

pub loop-i-preserved : goal.loop-i-preserved
loop-i-preserved c =
    let t = c.args.self.now in
    let w = c.args.word.now in
    let i = c.loop-i.i in
    let p = c.loop-i.invariant in
    let next = wrote_one (t.len + i) (get_or w i 0) c.loop-i.self.out.now (omega (arith, c.requires, p.2.kept)) in
    let e : t.len + (i + 1) ≡ t.len + i + 1 = omega arith in
    (p.0, p.1, rw (p.1, e) (left_more p.2 (drop (i + 1) w) (word_next w i (omega arith)) next))

pub overflow_add-self-2 : goal.overflow_add-self-2
overflow_add-self-2 c = omega (arith, c.requires, c.loop-i.invariant.1)

pub returns-clause-same_reference : goal.returns-clause-same_reference
returns-clause-same_reference c = c.loop-i.invariant.0

pub returns-clause-wrote : goal.returns-clause-wrote
returns-clause-wrote c =
    let w = c.args.word.now in
    let e : c.loop-i.i ≡ length w = omega arith in
    rw (c.loop-i.invariant.1, ← e) (c.loop-i.invariant.2.ends _ _ (rw (drop_all c.loop-i.i w (omega arith)) (wrote_none _ _)))
