-- `put_entries` meets its contract. The loop's invariant: the entries of the images below i are put. Assumes nothing.
use Prim.Native.Nat.{ℕ, ◌+◌, ◌-◌, ◌≤◌, ◌<◌}
use mathlib.Core.Path.{◌≡◌, refl, ap, ◌∙◌}
use native.Mathlib.Omega.{arith}
use lib.ListN.{length}
use Rattle.record_layout.specs.Layout.{image_count}
use Rattle.record_layout.proofs.Sound.{sound_long}
use Rattle.directory_layout.specs.Layout.{entry_start}
use Rattle.directory_layout.proofs.Written.{entries_none, entries_next, entries_kept}
use Rattle.directory_entries.specs.Installed.{installed_entry}
use Rattle.directory_entries.proofs.Guids.{guid_long}
use Rattle.directory_entries.proofs.put_entries.Goals as goal

pub image_count-i-end-requires : goal.image_count-i-end-requires
image_count-i-end-requires c = sound_long c.args.r.now c.requires.0

pub loop-i-init : goal.loop-i-init
loop-i-init c =
    let a = c.args in
    (refl, entries_none (installed_entry a.r.now a.booted a.words.now) a.out.now)

pub put_entry-requires : goal.put_entry-requires
put_entry-requires c =
    let low : c.loop-i.i < image_count c.args.r.now = omega (arith, c.loop-i-test.true, c.image_count-i-end.ensures) in
    (c.requires.0, low, c.requires.1, c.requires.2, omega (arith, c.requires.3, c.loop-i.invariant.0))

pub loop-i-preserved : goal.loop-i-preserved
loop-i-preserved c =
    let a = c.args in
    let r = a.r.now in
    let f = installed_entry r a.booted a.words.now in
    let m = c.image_count-i-end.ensures in
    let long : (k : ℕ) → k < c.loop-i.i + 1 → length (f k).type_guid ≡ 16 =
    λ k h. guid_long r k c.requires.0 (omega (arith, c.loop-i-test.true, m)) in
    let room : entry_start (c.loop-i.i + 1) ≤ length a.out.now = omega (arith, c.requires.3, c.loop-i-test.true, m) in
    let e = entries_next f a.out.now c.loop-i.i long room c.loop-i.invariant.1 c.put_entry.ensures in
    (ap length e ∙ entries_kept f a.out.now (c.loop-i.i + 1) long room, e)

pub returns : goal.returns
returns c =
    let z : c.loop-i.i ≡ image_count c.args.r.now = omega (arith, c.loop-i-test.false, c.loop-i.auto.i-end, c.image_count-i-end.ensures) in
    rw (← z) c.loop-i.invariant.1
