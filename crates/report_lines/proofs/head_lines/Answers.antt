-- `head_lines` meets its contract. Assumes nothing.
use Prim.Native.Nat.{ℕ}
use mathlib.Core.List.{List, [], ◌∷◌, ◌++◌}
use Rattle.record_layout.proofs.Sound.{sound_long}
use Rattle.record_layout.specs.Layout.{active, previous, size}
use Rattle.report_text.specs.Text.{ascii, line}
use Rattle.report_lines.specs.Lines.{head_lines}
use Rattle.report_text.specs.Wrote.{Room, Wrote}
use Rattle.report_text.proofs.Writing.{and_then, room_first, room_left}
use Rattle.report_lines.proofs.head_lines.Goals as goal
use Rattle.report_lines.proofs.head_lines.Goals.{After-line}

-- the three lines
abbrev recordLine : ℕ → List ℕ → List ℕ
recordLine copy r = line (ascii "record") (copy ∷ size r ∷ [])

abbrev activeLine : List ℕ → List ℕ
activeLine r = line (ascii "active") (active r ∷ [])

abbrev previousLine : List ℕ → List ℕ
previousLine r = line (ascii "previous") (previous r ∷ [])

abbrev namedLines : List ℕ → List ℕ
namedLines r = activeLine r ++ previousLine r

pub size-requires : goal.size-requires
size-requires c = sound_long c.args.r.now c.requires.0

pub line-requires : goal.line-requires
unfolding head_lines
line-requires c =
    let a = c.args in
    let r = a.r.now in
    rw c.size.ensures (room_first a.text.now.len (recordLine a.copy r) (namedLines r) a.text.now.out.now c.requires.1)

pub active-requires : goal.active-requires
active-requires c = sound_long c.args.r.now c.requires.0

-- the first line is written, and there is room behind it
first : (c : After-line) → let t = c.args.text.now in let u = c.line.new.self in
    Wrote t.len u.len (recordLine c.args.copy c.args.r.now) t.out.now u.out.now
first c = rw (← c.size.ensures) c.line.ensures.wrote

behind : (c : After-line) → let u = c.line.new.self in Room u.len (namedLines c.args.r.now) u.out.now
unfolding head_lines
behind c = room_left (namedLines c.args.r.now) c.requires.1 (first c)

pub line-requires-2 : goal.line-requires-2
line-requires-2 c =
    let r = c.args.r.now in
    let u = c.line.new.self in
    rw c.active.ensures (room_first u.len (activeLine r) (previousLine r) u.out.now (behind (goal.at.line-requires-2 c).After-line))

pub previous-requires : goal.previous-requires
previous-requires c = sound_long c.args.r.now c.requires.0

pub line-requires-3 : goal.line-requires-3
line-requires-3 c =
    let u = c.line.new.self in
    let v = c.line-2.new.self in
    let r = c.args.r.now in
    let second : Wrote u.len v.len (activeLine r) u.out.now v.out.now = rw (← c.active.ensures) c.line-2.ensures.wrote in
    rw c.previous.ensures (room_left (previousLine r) (behind (goal.at.line-requires-3 c).After-line) second)

pub returns-clause-wrote : goal.returns-clause-wrote
unfolding head_lines
returns-clause-wrote c =
    let l = (goal.at.returns-clause-wrote c).After-line in
    let u = c.line.new.self in
    let v = c.line-2.new.self in
    let w = c.line-3.new.self in
    let r = c.args.r.now in
    let second : Wrote u.len v.len (activeLine r) u.out.now v.out.now = rw (← c.active.ensures) c.line-2.ensures.wrote in
    let third : Wrote v.len w.len (previousLine r) v.out.now w.out.now = rw (← c.previous.ensures) c.line-3.ensures.wrote in
    and_then c.requires.1 (first l) (and_then (behind l) second third)
