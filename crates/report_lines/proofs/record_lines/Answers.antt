-- `record_lines` meets its contract. Assumes nothing.
use Prim.Native.Nat.{ℕ}
use Rattle.std.proofs.Common.{rules}
use mathlib.Core.List.{List, ◌++◌}
use Rattle.record_layout.specs.Layout.{bank_count, image_count}
use Rattle.report_text.specs.Text.{ascending}
use Rattle.report_lines.specs.Lines.{bank_line, image_lines, head_lines, record_lines}
use Rattle.report_text.specs.Wrote.{Room, Wrote}
use Rattle.report_text.proofs.Writing.{and_then, room_first, room_left}
use Rattle.report_lines.proofs.record_lines.Goals as goal
use Rattle.report_lines.proofs.record_lines.Goals.{After-head_lines}

-- the lines behind the first three
abbrev banks : List ℕ → List ℕ
banks r = ascending (bank_count r) (bank_line r)

abbrev images : List ℕ → List ℕ
images r = ascending (image_count r) (image_lines r)

abbrev others : List ℕ → List ℕ
others r = banks r ++ images r

pub head_lines-requires : goal.head_lines-requires
unfolding record_lines
head_lines-requires c =
    let a = c.args in
    let r = a.r.now in
    let e = c.new-text.ensures.empty in
    rw (e.0, e.1) (c.requires.0, room_first 0 (head_lines a.copy r) (others r) a.out.now c.requires.1)

-- the first lines are written, and there is room behind them
head : (c : After-head_lines) → let t = c.head_lines.new.text in
    Wrote 0 t.len (head_lines c.args.copy c.args.r.now) c.args.out.now t.out.now
head c = let e = c.new-text.ensures.empty in rw (e.0, e.1) at c.head_lines.ensures.wrote

behind : (c : After-head_lines) → let t = c.head_lines.new.text in Room t.len (others c.args.r.now) t.out.now
unfolding record_lines
behind c = room_left (others c.args.r.now) c.requires.1 (head c)

pub bank_lines-requires : goal.bank_lines-requires
bank_lines-requires c =
    let r = c.args.r.now in
    let t = c.head_lines.new.text in
    (c.requires.0, room_first t.len (banks r) (images r) t.out.now (behind (goal.at.bank_lines-requires c).After-head_lines))

pub all_images-requires : goal.all_images-requires
all_images-requires c =
    let r = c.args.r.now in
    (c.requires.0, room_left (images r) (behind (goal.at.all_images-requires c).After-head_lines) c.bank_lines.ensures.wrote)

pub returns : goal.returns
unfolding record_lines
returns c =
    let l = (goal.at.returns c).After-head_lines in
    let a = c.args in
    let last = c.all_images.new.text in
    let whole : Wrote 0 c.len.result (record_lines a.copy a.r.now) a.out.now last.out.now =
    rw c.len.ensures (and_then c.requires.1 (head l) (and_then (behind l) c.bank_lines.ensures.wrote c.all_images.ensures.wrote)) in
    search (rules, whole)
