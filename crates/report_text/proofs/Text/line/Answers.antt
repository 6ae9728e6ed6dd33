-- `line` meets its contract. Assumes nothing.
use Prim.Native.Nat.{◌+◌}
use lib.ListN.{drop, get_or}
use mathlib.Core.List.{◌∷◌}
use mathlib.Core.Path.{◌∙◌}
use native.Mathlib.Omega.{arith}
use Rattle.report_text.specs.Text.{tab, decimal, numbers, line}
use Rattle.report_text.proofs.Writing.{room_first, left_behind, left_room, left_more, numbers_next, numbers_end}
use Rattle.report_text.proofs.Text.line.Goals as goal

pub put_word-requires : goal.put_word-requires
unfolding line
put_word-requires c = let t = c.args.self.now in room_first t.len c.args.word.now (numbers c.args.numbers.now) t.out.now c.requires

pub loop-x-init : goal.loop-x-init
unfolding line
loop-x-init c =
    let e = c.put_word.ensures in
    (e.same_reference, left_behind (numbers c.args.numbers.now) c.requires e.wrote)

pub put_number-requires : goal.put_number-requires
put_number-requires c =
    let ns = c.args.numbers.now in
    let i = c.loop-x.x-index in
    left_room c.loop-x.invariant.1 (tab ∷ decimal (get_or ns i 0)) (numbers (drop (i + 1) ns)) (numbers_next ns i (omega arith))

pub loop-x-preserved : goal.loop-x-preserved
loop-x-preserved c =
    let ns = c.args.numbers.now in
    let e = c.put_number.ensures in
    (e.same_reference ∙ c.loop-x.invariant.0, left_more c.loop-x.invariant.1 _ (numbers_next ns c.loop-x.x-index (omega arith)) e.wrote)

pub put_byte-requires : goal.put_byte-requires
put_byte-requires c = rw (numbers_end c.args.numbers.now c.loop-x.x-index (omega arith)) at c.loop-x.invariant.1.room

pub returns-clause-wrote : goal.returns-clause-wrote
returns-clause-wrote c =
    c.loop-x.invariant.1.ends _ _ (rw (numbers_end c.args.numbers.now c.loop-x.x-index (omega arith)) c.put_byte.ensures.wrote)
