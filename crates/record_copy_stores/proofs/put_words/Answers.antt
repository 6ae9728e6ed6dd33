-- `put_words` meets its contract: a turn of the loop lists one word more, where it differs. Assumes nothing.
use Prim.Native.Nat.{◌+◌, ◌*◌, ◌-◌}
use mathlib.Core.List.{[], ◌∷◌}
use mathlib.Core.Path.{◌≡◌, refl, sym, ◌∙◌}
use native.Mathlib.Omega.{arith}
use Rattle.fields.specs.Number.{le}
use Rattle.record_stores.proofs.Laid.{added_none, added_more, stored_one, offsets_none}
use Rattle.record_stores.specs.Added.{Added, stored}
use Rattle.record_alterations.specs.Altered.{record_with}
use Rattle.record_alterations.proofs.Words.{new_apart}
use Rattle.record_copy_stores.proofs.put_words.Goals as goal

pub loop-k-init : goal.loop-k-init
loop-k-init c =
    let a = c.args in
    let l = a.list.now in
    (refl, rw (offsets_none a.c.now (record_with a.new.now.x a.new.now.r.now) a.base) (added_none l.pairs l.out.now), omega arith)

pub loop-k-preserved : goal.loop-k-preserved
loop-k-preserved c =
    let a = c.args in
    let s = a.new.now in
    let N = record_with s.x s.r.now in
    let o = 4 * c.loop-k.k in
    let l = c.loop-k.list in
    let new = c.push_differing.new.self in
    let i = c.loop-k.invariant in
    let e = c.push_differing.ensures in
    let k = c.loop-k.auto.k in
    let word : c.word.result ≡ le 4 N o = c.word.ensures ∙ sym (new_apart s.x s.r.now s.banks s.alterable 4 o (omega (arith, k))) in
    let one : Added l.pairs new.pairs (stored a.base a.c.now N (o ∷ [])) l.out.now new.out.now =
    rw (← stored_one a.base a.c.now N o, ← c.read32.ensures, ← word) e.added in
    let m : c.loop-k.k + 1 - 2 ≡ c.loop-k.k - 2 + 1 = omega (arith, k) in (
      e.same_reference ∙ i.0,
      rw m
          (added_more a.base a.c.now N a.list.now.pairs l.pairs new.pairs (c.loop-k.k - 2) o a.list.now.out.now l.out.now new.out.now
          (omega (arith, k)) i.1 one),
      omega (arith, e.one, i.2, k),
    )
