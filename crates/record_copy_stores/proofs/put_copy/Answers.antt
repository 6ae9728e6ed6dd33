-- `put_copy` meets its contract: the version spoilt, the words that differ, the version set right. Assumes nothing.
use Prim.Native.Nat.{◌+◌, ◌-◌, ◌/◌}
use lib.ListN.{length, take, drop}
use mathlib.Core.List.{List, [], ◌∷◌, ◌++◌}
use mathlib.Core.Path.{◌≡◌, sym, ◌∙◌}
use native.Mathlib.Omega.{arith}
use Rattle.fields.specs.Number.{le}
use Rattle.record_layout.proofs.Copies.{copy_is}
use Rattle.record_stores.specs.Added.{Added, stored}
use Rattle.record_stores.specs.Stores.{Store, offsets}
use Rattle.record_stores.proofs.Laid.{added_then, stored_one, plan_parts}
use Rattle.record_alterations.specs.Altered.{record_with}
use Rattle.record_alterations.proofs.Words.{new_length, new_crc, new_apart}
use Rattle.record_copy_stores.proofs.put_copy.Goals as goal

pub returns-clause-added : goal.returns-clause-added
returns-clause-added c =
    let a = c.args in
    let s = a.new.now in
    let b = a.base in
    let C = take (b + 8192 - b) (drop b a.area.now) in
    let N = record_with s.x s.r.now in
    let l0 = a.list.now in
    let l1 = c.push.new.self in
    let l2 = c.push_differing.new.self in
    let l3 = c.put_words.new.list in
    let l4 = c.push-2.new.self in
    let A : List Store = (b + 4, 0) ∷ [] in
    let B = stored b C N (0 ∷ []) in
    let D = stored b C N (offsets 8 (length N / 4 - 2)) in
    let Z : List Store = (b + 4, le 4 N 4) ∷ [] in
    let crc : a.crc ≡ le 4 N 0 = sym (new_crc s.x s.r.now s.banks s.alterable a.crc c.ranges.crc.fits c.requires.0) in
    let version : c.word.result ≡ le 4 N 4 = c.word.ensures ∙ sym (new_apart s.x s.r.now s.banks s.alterable 4 4 (omega arith)) in
    let second : Added l1.pairs l2.pairs B l1.out.now l2.out.now = rw (← stored_one b C N 0, ← c.read32.ensures, ← crc)
    c.push_differing.ensures.added in
    let third : Added l2.pairs l3.pairs D l2.out.now l3.out.now = rw (new_length s.x s.r.now s.banks s.alterable)
    c.put_words.ensures.added in
    let last : Added l3.pairs l4.pairs Z l3.out.now l4.out.now = rw (← version) c.push-2.ensures.added in
    rw (← copy_is a.area.now b, plan_parts b C N)
    (added_then l0.pairs l1.pairs l4.pairs A (B ++ (D ++ Z)) l0.out.now l1.out.now l4.out.now c.push.ensures.added
    (added_then l1.pairs l2.pairs l4.pairs B (D ++ Z) l1.out.now l2.out.now l4.out.now second
    (added_then l2.pairs l3.pairs l4.pairs D Z l2.out.now l3.out.now l4.out.now third last)))
