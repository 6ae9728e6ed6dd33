-- What the tests of start-up and of the writer tell: the record read makes a directory of right values. a is the bytes
-- of an area, r those of the record read. Assumes nothing.
use mathlib.Core.Path.{◌≡◌, refl, sym, ◌∙◌}
use mathlib.Core.Bool.{true}
use mathlib.Core.List.{List}
use Prim.Native.Nat.{ℕ, ◌+◌, ◌*◌, ◌^◌, ◌≤◌, ◌<◌}
use native.Mathlib.Omega.{arith}
use borrow.Author.Tests.{leb-false}
use Rattle.fields.proofs.Tests.{no_true}
use Rattle.refusal_order.specs.Decide.{passed, decide}
use Rattle.refusal_order.proofs.Decide.{no_fault}
use Rattle.record_layout.specs.Every.{below}
use Rattle.record_layout.specs.Layout.{bank_count, image_count}
use Rattle.record_layout.specs.Rules.{sound}
use Rattle.record_layout.proofs.Below.{below_each}
use Rattle.record_layout.proofs.Sound.{sound_sized, sound_accepted, sound_different}
use Rattle.record_copies.specs.Copies.{source_of, record_read}
use Rattle.record_copies.proofs.Reading.{read_sound}
use Rattle.update_admission.specs.Rows.{read_tests}
use Rattle.update_admission.proofs.Area.{none_sound}
use Rattle.update_session.specs.declared.Session.{Session}
use Rattle.update_session.specs.declared.Session.TheVariants.{Regular, Staging, Trial, Fallback, Restart}
use Rattle.update_start_up.specs.StartUp.{started_session, start_up_tests}
use Rattle.directory_layout.specs.Layout.{directory_bytes, permissions_right}
use Rattle.directory_layout.proofs.Read.{Holds, bytes_hold}
use Rattle.directory_entries.specs.Installed.{words_an_image, word_for, installed_entry}
use Rattle.directory_entries.proofs.Guids.{guid_long}
use Rattle.directory_writer.specs.Writer.{correct_boot_of, installed}
use Rattle.proof_directory.specs.RoundTrip.{Words}
use Rattle.proof_directory.proofs.Taken.{Right}

-- ---- start-up refuses neither area nor bank
pub started_sound : (a : List ℕ) (booted : ℕ) → decide (start_up_tests a booted) ≡ passed → sound (record_read a) ≡ true
unfolding start_up_tests read_tests
started_sound a booted t =
    let p = no_fault (start_up_tests a booted) (sym t) in
    read_sound (source_of a) a refl (λ lost. no_true (sym p.1.0 ∙ none_sound a lost))

pub started_booted : (a : List ℕ) (booted : ℕ) → decide (start_up_tests a booted) ≡ passed → booted < bank_count (record_read a)
unfolding start_up_tests read_tests
started_booted a booted t =
    let p = no_fault (start_up_tests a booted) (sym t) in
    leb-false (bank_count (record_read a)) booted p.1.1.0

boot_low : (q : Session) → correct_boot_of q ≤ 1
boot_low Regular = omega arith
boot_low (Staging bank set) = omega arith
boot_low Trial = omega arith
boot_low Fallback = omega arith
boot_low Restart = omega arith

-- ---- a sound record, a bank that it has, and 32-bit words
module _ (r : List ℕ) (booted : ℕ) (words : List ℕ) (e : sound r ≡ true) (hb : booted < bank_count r) where
  pub installed_right : below (image_count r) (λ i. permissions_right (word_for words i 0)) ≡ true
      → Right (image_count r) (correct_boot_of (started_session r booted)) (installed_entry r booted words)
  installed_right right =
      record {
        low = (sound_sized r e).images_low;
        high = (sound_sized r e).images_high;
        correct_boot = boot_low (started_session r booted);
        permissions = λ k lt. below_each (λ i. permissions_right (word_for words i 0)) (image_count r) k right lt;
        accepted = λ k lt. sound_accepted r k booted e lt hb;
        different = sound_different r e;
      }

  pub installed_held : Words words
      → Holds (directory_bytes (installed r booted words)) (image_count r) (correct_boot_of (started_session r booted))
      (installed_entry r booted words)
  installed_held small =
      let word : (i place : ℕ) → word_for words i place < 2 ^ 32 = λ i place. small (i * words_an_image + place) in
      bytes_hold (image_count r) (correct_boot_of (started_session r booted)) (installed_entry r booted words)
      (omega (arith, (sound_sized r e).images_high)) (omega (arith, boot_low (started_session r booted)))
      (λ k lt. guid_long r k e lt)
      (λ k lt. omega (arith, word k 0, word k 1, word k 2, word k 3, sound_accepted r k booted e lt hb))
