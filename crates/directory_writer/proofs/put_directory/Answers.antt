-- `put_directory` meets its contract: the header, then the entries behind it. Assumes nothing.
use Prim.Native.Nat.{ℕ, ◌<◌}
use mathlib.Core.Path.{◌≡◌, sym}
use native.Mathlib.Omega.{arith}
use lib.ListN.{length}
use Rattle.record_layout.specs.Layout.{image_count}
use Rattle.record_layout.proofs.Sound.{sound_sized, sound_long}
use Rattle.update_start_up.specs.StartUp.{started_session}
use Rattle.directory_layout.specs.Layout.{header_bytes}
use Rattle.directory_layout.proofs.Written.{directory_length, directory_put}
use Rattle.directory_entries.specs.Installed.{installed_entry}
use Rattle.directory_entries.proofs.Guids.{guid_long}
use Rattle.directory_writer.specs.Writer.{correct_boot_of}
use Rattle.directory_writer.proofs.put_directory.Goals as goal

pub image_count-images-requires : goal.image_count-images-requires
image_count-images-requires c = sound_long c.args.r.now c.requires.0

pub overflow_cast-six-2 : goal.overflow_cast-six-2
overflow_cast-six-2 c = omega (arith, c.image_count-images.ensures, (sound_sized c.args.r.now c.requires.0).images_high)

pub returns : goal.returns
unfolding header_bytes
returns c =
    let a = c.args in
    let r = a.r.now in
    let f = installed_entry r a.booted a.words.now in
    let n = image_count r in
    let boot = correct_boot_of (started_session r a.booted) in
    let long : (k : ℕ) → k < n → length (f k).type_guid ≡ 16 = λ k h. guid_long r k c.requires.0 h in
    let head = rw (c.image_count-images.ensures, c.correct_boot.ensures, c.requires.2) at c.write_words.ensures in (
      rw c.image_count-images.ensures (sym (directory_length boot n f long)),
      directory_put boot n f long a.out.now c.requires.4 head c.put_entries.ensures,
    )
