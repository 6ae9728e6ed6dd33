-- `put_entry` meets its contract: the type GUID, then six numbers behind it. Assumes nothing.
use native.Mathlib.Nat.{add-zero}
use native.Mathlib.Omega.{arith}
use Rattle.record_layout.specs.Layout.{bank_count, image_count}
use Rattle.record_layout.specs.Sized.{Sized}
use Rattle.record_layout.proofs.Sizes.{guid_in}
use Rattle.record_layout.proofs.Sound.{sound_sized, sound_long}
use Rattle.directory_layout.proofs.Written.{entry_put}
use Rattle.directory_entries.specs.Installed.{installed_entry}
use Rattle.directory_entries.proofs.Guids.{guid_long}
use Rattle.directory_entries.proofs.put_entry.Goals as goal

pub bank_count-banks-requires : goal.bank_count-banks-requires
bank_count-banks-requires c = sound_long c.args.r.now c.requires.0

pub accepted_word-flag-requires : goal.accepted_word-flag-requires
accepted_word-flag-requires c =
    let sized : Sized c.args.r.now (bank_count c.args.r.now) (image_count c.args.r.now) = sound_sized c.args.r.now c.requires.0 in
    rw c.bank_count-banks.ensures (sized, c.requires.1, c.requires.2)

pub entry_at-requires : goal.entry_at-requires
entry_at-requires c =
    let sized : Sized c.args.r.now (bank_count c.args.r.now) (image_count c.args.r.now) = sound_sized c.args.r.now c.requires.0 in
    let z = sized in
    (omega (arith, z.banks_high, c.bank_count-banks.ensures), omega (arith, z.images_high))

pub write_guid-requires : goal.write_guid-requires
write_guid-requires c =
    let sized : Sized c.args.r.now (bank_count c.args.r.now) (image_count c.args.r.now) = sound_sized c.args.r.now c.requires.0 in
    let a = c.args in
    let r = a.r.now in (
      omega (arith, c.requires.4),
      rw (c.entry_at.ensures.0, c.bank_count-banks.ensures) (guid_in r (bank_count r) (image_count r) a.i sized c.requires.1),
    )

pub returns : goal.returns
returns c =
    let a = c.args in
    let r = a.r.now in
    let long = guid_long r a.i c.requires.0 c.requires.1 in
    entry_put (installed_entry r a.booted a.words.now a.i) long a.out.now _ (omega (arith, c.requires.4))
    (rw (c.entry_at.ensures.0, c.bank_count-banks.ensures) at c.write_guid.ensures)
    (rw (add-zero, ← c.accepted_word-flag.ensures) c.write_words.ensures)
