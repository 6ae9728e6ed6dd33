-- `list_change` meets its contract: nothing where the record stays, else both copies. Assumes nothing.
use mathlib.Core.Path.{sym, ◌∙◌}
use mathlib.Core.List.{◌++◌}
use borrow.Author.Rules.{rules}
use Rattle.record_layout.specs.Layout.{copy_size, copy0, copy1, record_of}
use Rattle.record_layout.proofs.Sound.{sound_sized}
use Rattle.record_stores.specs.Stores.{plan}
use Rattle.record_stores.specs.Added.{Added}
use Rattle.record_stores.proofs.Laid.{added_then}
use Rattle.record_alterations.specs.Altered.{record_with}
use Rattle.record_store_lists.specs.ChangeStores.{change_stores}
use Rattle.record_store_lists.specs.Lists.{AtFront}
use Rattle.record_store_lists.proofs.Listing.{at_front, at_front_none, stores_none, stores_both}
use Rattle.record_store_lists.proofs.list_change.Goals as goal

pub new-new-requires : goal.new-new-requires
new-new-requires c =
    let e = c.held_record.ensures in
    record { sized = sound_sized c.held_record.result.now e.1; within = rw e.0 c.requires.1 }

pub returns-then-is_unchanged : goal.returns-then-is_unchanged
returns-then-is_unchanged c =
    let a = c.args in
    let n = c.new-new in
    let told = rw (n.ensures.0, n.ensures.1) at (sym c.if-is_unchanged.true ∙ c.is_unchanged.ensures) in
    at_front_none _ a.out.now (stores_none a.x a.area.now c.held_record.result.now c.held_record.ensures.0 c.requires.0.equal told)

pub returns : goal.returns
returns c =
    let a = c.args in
    let A = a.area.now in
    let R = c.held_record.result.now in
    let N = record_with a.x R in
    let n = c.new-new in
    let told = rw (n.ensures.0, n.ensures.1) at (sym c.if-is_unchanged.false ∙ c.is_unchanged.ensures) in
    let l0 = c.new-list.result in
    let l1 = c.put_copy.new.list in
    let l2 = c.put_copy-2.new.list in
    let one = plan 0 (copy0 A) N in
    let two = plan copy_size (copy1 A) N in
    let first : Added 0 l1.pairs one a.out.now l1.out.now = rw (
      c.new-list.ensures.empty.0,
      c.new-list.ensures.empty.1,
      n.ensures.0,
      n.ensures.1,
    ) at c.put_copy.ensures.added in
    let second : Added l1.pairs l2.pairs two l1.out.now l2.out.now = rw (n.ensures.0, n.ensures.1) at c.put_copy-2.ensures.added in
    let listed : AtFront c.pairs.result (change_stores A (record_with a.x (record_of (copy0 A)))) a.out.now l2.out.now =
    rw (stores_both a.x A R c.held_record.ensures.0 c.requires.0.equal told, c.pairs.ensures)
    (at_front l2.pairs (one ++ two) a.out.now l2.out.now (added_then 0 l1.pairs l2.pairs one two a.out.now l1.out.now l2.out.now first
    second)) in
    search (rules, listed)
