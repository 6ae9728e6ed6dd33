-- What is written is read back, what is read is what would be written, and each that is read could be written. d is the
-- bytes of a directory, a those of an area. Assumes nothing.
use mathlib.Core.Path.{◌≡◌, refl, sym, ap, ◌∙◌}
use mathlib.Core.Bool.{true}
use mathlib.Core.List.{List, ◌++◌}
use Prim.Native.Nat.{ℕ, ◌+◌, ◌*◌, ◌≤◌, ◌<◌}
use native.Mathlib.Omega.{arith}
use borrow.Author.Tests.{not-false, ltb-false, le-ltb}
use lib.ListN.{length, take, drop, get_or}
use lib.Seq.{take-append_seam}
use Rattle.fields.specs.Number.{Bytes, put}
use Rattle.refusal_order.specs.Decide.{Decision, passed, refusal, decide, Reply, gives, refuses}
use Rattle.refusal_order.proofs.Decide.{no_fault, passed_first, passed_before}
use Rattle.record_layout.specs.Every.{below}
use Rattle.record_layout.specs.Layout.{image_count}
use Rattle.record_layout.proofs.Below.{below_all}
use Rattle.record_copies.specs.Copies.{record_read}
use Rattle.update_start_up.specs.StartUp.{started_session, start_up_tests}
use Rattle.directory_layout.specs.Layout.{Directory, DirectoryEntry, directory_bytes, directory_size, up_to}
use Rattle.directory_layout.specs.Layout.{images_in, correct_boot_in, permissions_right}
use Rattle.directory_layout.proofs.Written.{up_to_length}
use Rattle.directory_layout.proofs.Read.{entry_words_in, up_to_at, held_bytes}
use Rattle.directory_entries.specs.Installed.{words_an_image, word_for, installed_entry}
use Rattle.directory_writer.specs.Writer.{correct_boot_of, installed, directory_tests, writer_tests, written_by, written}
use Rattle.proof_directory.specs.RoundTrip.{Words, Taken, Shows, RoundTrip}
use Rattle.proof_directory.proofs.Taken.{taken_holds, held_taken, held_shown}
use Rattle.proof_directory.proofs.Installed.{started_sound, started_booted, installed_right, installed_held}
use Rattle.proof_directory.proofs.Shown.{taken_shown}

-- ---- I11
-- a writer that gave a count passed all tests: it is the length of the directory, which stands at the front
gave : (x : Decision) (dir out new : List ℕ) (n : ℕ) → ◌≡◌ {A = Reply ℕ × List ℕ} (written_by x dir out) (gives n, new)
    → (x ≡ passed) × (take n new ≡ dir)
unfolding written_by put
gave passed dir out new n e =
    let count : gives (length dir) ≡ gives n = ap (λ (p : Reply ℕ × List ℕ). p.0) e in
    let slice : dir ++ drop (0 + length dir) out ≡ new = ap (λ (p : Reply ℕ × List ℕ). p.1) e in
    let same : n ≡ length dir = cc in
    (refl, rw (same, ← slice) (take-append_seam dir (drop (0 + length dir) out)))
gave (refusal number values) dir out new n e =
    let f : refuses number values ≡ gives n = ap (λ (p : Reply ℕ × List ℕ). p.0) e in
    let z : ◌≡◌ {A = ℕ} 0 1 = cc in
    absurd (omega arith)

written_taken : (a words out new : List ℕ) (booted n : ℕ) → Words words
    → ◌≡◌ {A = Reply ℕ × List ℕ} (written a booted words out) (gives n, new)
    → Taken (take n new) × Shows (take n new) a booted words
unfolding written writer_tests
written_taken a words out new booted n small e =
    let r = record_read a in
    let tests = directory_tests r words (length out) in
    let d = directory_bytes (installed r booted words) in
    let p = gave (decide (writer_tests a booted words (length out))) d out new n e in
    let q = passed_first (start_up_tests a booted) tests (sym p.0) in
    let started = sym q.0 in
    let t = no_fault tests q.1 in
    let good = started_sound a booted started in
    let bank = started_booted a booted started in
    let boot = correct_boot_of (started_session r booted) in
    let f : ℕ → DirectoryEntry = installed_entry r booted words in
    let holds = installed_held r booted words good bank small in
    let right = not-false (below (image_count r) (λ i. permissions_right (word_for words i 0))) t.1.0 in
    let taken = held_taken d (image_count r) boot f holds (installed_right r booted words good bank right) in
    rw p.1 (
      taken,
      record {
        started = started;
        enough = ltb-false (length words) (image_count r * words_an_image) t.0;
        same = sym (held_shown d (image_count r) boot f holds taken);
      },
    )

-- ---- I12: what shows a directory that is taken is as the directory
module _ (d a : List ℕ) (booted : ℕ) (words : List ℕ) (t : Taken d) (s : Shows d a booted words) where
  abbrev r : List ℕ
  r = record_read a

  abbrev n : ℕ
  n = image_count r

  same : installed r booted words ≡ record { correct_boot = correct_boot_in d; entries = up_to (images_in d) (entry_words_in d) }
  same = s.same ∙ held_shown d (images_in d) (correct_boot_in d) (entry_words_in d) (taken_holds d t).0 t

  same_images : n ≡ images_in d
  same_images =
      sym (up_to_length n (installed_entry r booted words))
      ∙ ap (λ (x : Directory). length x.entries) same
      ∙ up_to_length (images_in d) (entry_words_in d)

  same_entry : (k : ℕ) → k < n → installed_entry r booted words k ≡ entry_words_in d k
  same_entry k lt =
      let z = entry_words_in d k in
      sym (up_to_at n k (installed_entry r booted words) z lt)
      ∙ ap (λ (x : Directory). get_or x.entries k z) same
      ∙ up_to_at (images_in d) k (entry_words_in d) z (rw same_images at lt)

  -- so that the writer's tests pass where there is room
  tests_pass : (out : List ℕ) → length d ≤ length out → passed ≡ decide (writer_tests a booted words (length out))
  unfolding writer_tests decide
  tests_pass out room =
      let h = taken_holds d t in
      let right : (k : ℕ) → k < n → permissions_right (word_for words k 0) ≡ true =
      λ k lt.
      rw (ap (λ (x : DirectoryEntry). x.numbers.permissions) (same_entry k lt)) (h.1.permissions k (rw same_images at lt)) in
      let fits : directory_size n ≤ length out = rw (same_images, ← h.0.long) room in
      passed_before (start_up_tests a booted) (directory_tests r words (length out)) passed (sym s.started)
      (rw (
        le-ltb (length words) (n * words_an_image) s.enough,
        below_all (λ k. permissions_right (word_for words k 0)) n right,
        le-ltb (length out) (directory_size n) fits,
      ))

taken_written : (d a words out : List ℕ) (booted : ℕ) → Bytes d → Taken d → Shows d a booted words → length d ≤ length out
    → ◌≡◌ {A = Reply ℕ × List ℕ} (written a booted words out) (gives (length d), put out 0 d)
unfolding written written_by
taken_written d a words out booted small t s room =
    let bytes : directory_bytes (installed (record_read a) booted words) ≡ d =
    ap directory_bytes (same d a booted words t s)
    ∙ held_bytes (images_in d) (correct_boot_in d) (entry_words_in d) d small (taken_holds d t).0 in
    rw (bytes, ← tests_pass d a booted words t s out room)

-- ---- with I13
pub round_trip : RoundTrip
round_trip = record { written_taken = written_taken; taken_written = taken_written; taken_shown = taken_shown }
