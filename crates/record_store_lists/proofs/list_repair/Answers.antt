-- `list_repair` meets its contract: the record read is written as it stands. Assumes nothing.
use mathlib.Core.Path.{◌≡◌}
use borrow.Author.Rules.{rules}
use Rattle.record_layout.specs.Layout.{copy_at}
use Rattle.record_layout.proofs.Sound.{sound_sized}
use Rattle.record_copies.specs.Copies.{record_read}
use Rattle.record_stores.specs.Stores.{plan}
use Rattle.record_stores.specs.Added.{Added}
use Rattle.record_store_lists.specs.ChangeStores.{repair_stores}
use Rattle.record_store_lists.specs.Lists.{AtFront}
use Rattle.record_store_lists.proofs.Listing.{at_front, at_front_none, repair_none, repair_copy0, repair_copy1}
use Rattle.record_store_lists.proofs.list_repair.Goals as goal
use Rattle.record_store_lists.proofs.list_repair.Goals.{in-Copy0-2, in-Copy1}

pub returns-in-Copy0 : goal.returns-in-Copy0
returns-in-Copy0 c = at_front_none _ c.args.out.now (repair_none c.args.area.now (cc))

pub new-requires : goal.new-requires
new-requires c =
    let e = c.read_record-r in
    record { sized = sound_sized e.result.now e.ensures.1; within = c.unaltered.ensures.within }

pub returns : goal.returns
returns c =
    let a = c.args in
    let A = a.area.now in
    let base = c.match-from.base in
    let l0 = c.new-list.result in
    let l1 = c.put_copy.new.list in
    let n = c.new in
    let ss = plan base (copy_at base A) (record_read A) in
    let stores : repair_stores A ≡ ss =
    elim c.match-from.branch [
      | in-Copy0-2 w ↦ rw w.base-is (repair_copy1 A (cc) (cc))
      | in-Copy1 w ↦ rw w.base-is (repair_copy0 A cc)
    ] in
    let listed : Added 0 l1.pairs ss a.out.now l1.out.now =
    rw (
      c.new-list.ensures.empty.0,
      c.new-list.ensures.empty.1,
      n.ensures.0,
      n.ensures.1,
      c.unaltered.ensures.stays,
      c.read_record-r.ensures.0,
    ) at c.put_copy.ensures.added in
    let front : AtFront c.pairs.result (repair_stores A) a.out.now l1.out.now =
    rw (stores, c.pairs.ensures) (at_front l1.pairs ss a.out.now l1.out.now listed) in
    search (rules, front)
