-- `image_of` meets its contract. The loop's invariant: no image below i has the type GUID. Assumes nothing.
use native.Mathlib.Omega.{arith}
use mathlib.Core.Path.{◌≡◌, sym, ◌∙◌}
use lib.ListN.{length}
use mathlib.Core.List.{List}
use Prim.Native.Nat.{ℕ, ◌<◌}
use Rattle.record_layout.proofs.Sizes.{guid_in}
use lib.Seq.{take_all}
use Rattle.record_layout.proofs.Below.{least_none, least_more, least_found}
use Rattle.record_layout.specs.Layout.{bank_count, image_count}
use Rattle.fields.specs.Guid.{guid}
use Rattle.record_layout.proofs.Sound.{sound_long}
use Rattle.update_changes.specs.NewRecord.{image_with}
use Rattle.update_changes.proofs.Banks.{sized}
use Rattle.update_changes.proofs.image_of.Invariants.{test}
use Rattle.update_changes.proofs.image_of.Goals as goal

-- 16 bytes are a GUID
whole : (g : List ℕ) → length g ≡ 16 → guid g 0 ≡ g
unfolding guid
whole g h = take_all 16 g (omega arith)

pub bank_count-banks-requires : goal.bank_count-banks-requires
bank_count-banks-requires c = sound_long c.args.r.now c.requires.0

pub image_count-i-end-requires : goal.image_count-i-end-requires
image_count-i-end-requires c = sound_long c.args.r.now c.requires.0

pub loop-i-init : goal.loop-i-init
loop-i-init c = least_none (test c.args.r.now c.args.guid.now)

pub entry_at-requires : goal.entry_at-requires
entry_at-requires c =
    let z = sized c.args.r.now c.requires.0 in
    (omega (arith, z.banks_high, c.bank_count-banks.ensures), omega (arith, z.images_high, c.image_count-i-end.ensures))

pub same_guid-requires : goal.same_guid-requires
same_guid-requires c =
    let r = c.args.r.now in
    let lt : c.loop-i.i < image_count r = rw (← c.image_count-i-end.ensures) c.loop-i-test.true in (
      rw (c.entry_at.ensures.0, c.bank_count-banks.ensures)
          (guid_in r (bank_count r) (image_count r) c.loop-i.i (sized r c.requires.0) lt),
      omega arith,
    )

pub returns-then-same_guid : goal.returns-then-same_guid
unfolding image_with
returns-then-same_guid c =
    let a = c.args in
    let lt : c.loop-i.i < image_count a.r.now = rw (← c.image_count-i-end.ensures) c.loop-i-test.true in
    let tested : c.same_guid.result ≡ test a.r.now a.guid.now c.loop-i.i =
    rw (← c.bank_count-banks.ensures, ← c.entry_at.ensures.0, ← whole a.guid.now c.requires.1) c.same_guid.ensures in (
      sym (least_found (test a.r.now a.guid.now) (image_count a.r.now) c.loop-i.i lt c.loop-i.invariant (sym tested ∙ c.if-same_guid.true)),
      lt,
    )

pub loop-i-preserved : goal.loop-i-preserved
loop-i-preserved c =
    let a = c.args in
    let tested : c.same_guid.result ≡ test a.r.now a.guid.now c.loop-i.i =
    rw (← c.bank_count-banks.ensures, ← c.entry_at.ensures.0, ← whole a.guid.now c.requires.1) c.same_guid.ensures in
    least_more (test a.r.now a.guid.now) c.loop-i.i c.loop-i.invariant (sym tested ∙ c.if-same_guid.false)

pub returns : goal.returns
unfolding image_with
returns c =
    let e : c.loop-i.i ≡ image_count c.args.r.now = omega (arith, c.image_count-i-end.ensures, c.loop-i.auto.i-end, c.loop-i-test.false) in
    rw e at c.loop-i.invariant
