-- I13: of each directory that the reader takes, an area, a booted bank and words show it. d is its bytes.
-- Assumes nothing.
use mathlib.Core.Path.{◌≡◌, refl, sym, ◌∙◌}
use mathlib.Core.Bool.{Bool, true, false, cond}
use mathlib.Core.Logic.{⊎_elim}
use mathlib.Core.List.{List}
use Prim.Native.Nat.{ℕ, ◌+◌, ◌*◌, ◌/◌, ◌%◌, ◌≤◌, ◌<◌}
use native.Mathlib.Omega.{arith}
use borrow.Author.Tests.{eqb-true, eqb-false}
use lib.Dec.{eqb}
use lib.ListN.{length, drop, get_or-eq_default}
use Rattle.fields.specs.Number.{Bytes, le}
use Rattle.fields.specs.Guid.{guid}
use Rattle.fields.proofs.Tests.{le_or_lt}
use Rattle.fields.proofs.Guid.{guid_whole}
use Rattle.fields.proofs.Bytes.{take_bytes, drop_bytes, le_small}
use Rattle.record_layout.specs.Layout.{state}
use Rattle.record_layout.specs.Rules.{accepted_bank}
use Rattle.update_session.specs.declared.Session.TheVariants.{Regular, Trial, Fallback}
use Rattle.update_start_up.specs.StartUp.{started_session}
use Rattle.directory_layout.specs.Layout.{up_to, images_in, correct_boot_in, entry_start, type_guid_in, numbers_in}
use Rattle.directory_layout.proofs.Written.{up_to_length}
use Rattle.directory_layout.proofs.Read.{entry_words_in, up_to_same, up_to_at}
use Rattle.directory_entries.specs.Installed.{words_an_image, word_for, installed_entry}
use Rattle.directory_writer.specs.Writer.{correct_boot_of, installed}
use Rattle.proof_directory.specs.RoundTrip.{Words, Taken, shown, SomeShow}
use Rattle.proof_directory.proofs.Taken.{taken_holds, held_shown}
use Rattle.proof_directory.proofs.WitnessRecord.{Wanted, Possible, active_for, witness_record, header_is, images_is, guid_is, bank0_is}
use Rattle.proof_directory.proofs.WitnessArea.{witness_area, area_small, area_record, area_starts}

-- correct_boot of a session that starts with bank 0, where that is the active bank or not
boot_of : (b c : Bool) → correct_boot_of (cond (eqb 0 (cond b 0 1)) (cond c Regular Trial) Fallback) ≡ cond b 1 0
boot_of true true = refl
boot_of true false = refl
boot_of false c = refl

boolean_is : (v : ℕ) → v ≤ 1 → cond (eqb v 1) 1 0 ≡ v
boolean_is v h = go (eqb v 1) refl
  where
    go : (b : Bool) → eqb v 1 ≡ b → cond b 1 0 ≡ v
    go true e = sym (eqb-true v 1 e)
    go false e = omega (arith, eqb-false v 1 e)

-- the record that shows d, and the words: four of each entry
abbrev wanted : List ℕ → Wanted
wanted d =
    record {
      images = images_in d;
      right = eqb (correct_boot_in d) 1;
      guids = type_guid_in d;
      flags = λ k. (numbers_in d k).accepted;
    }

abbrev record_for : List ℕ → List ℕ
record_for d = witness_record (wanted d)

abbrev word_in : List ℕ → ℕ → ℕ
word_in d i = le 4 d (entry_start (i / words_an_image) + (16 + 4 * (i % words_an_image)))

abbrev words_for : List ℕ → List ℕ
words_for d = up_to (images_in d * words_an_image) (word_in d)

module _ (d : List ℕ) (b : Bytes d) (t : Taken d) where
  possible : Possible (wanted d)
  unfolding guid
  possible =
      let h = taken_holds d t in
      record {
        some = h.1.low;
        few = h.1.high;
        guids_long = λ k lt. guid_whole d (entry_start k) (omega (arith, h.0.long));
        guids_small = λ k lt. take_bytes 16 (drop (entry_start k) d) (drop_bytes (entry_start k) d b);
        guids_differ = h.1.different;
        flags_low = h.1.accepted;
      }

  -- ---- the words
  words_low : Words (words_for d)
  words_low i =
      let n = images_in d * words_an_image in
      ⊎_elim
      (λ (past : n ≤ i).
      let out : length (words_for d) ≤ i = omega (arith, up_to_length n (word_in d)) in
      rw (get_or-eq_default (words_for d) 0 out) (omega arith))
      (λ lt. rw (up_to_at n i (word_in d) 0 lt) (le_small 4 d (entry_start (i / words_an_image) + (16 + 4 * (i % words_an_image))) b))
      (le_or_lt n i)

  word_is : (k place : ℕ) → k < images_in d → place < words_an_image
      → word_for (words_for d) k place ≡ le 4 d (entry_start k + (16 + 4 * place))
  word_is k place h l =
      let i = k * words_an_image + place in
      let entry : i / words_an_image ≡ k = omega arith in
      let at : i % words_an_image ≡ place = omega arith in
      up_to_at (images_in d * words_an_image) i (word_in d) 0 (omega arith) ∙ rw (entry, at)

  -- ---- what they show
  entry_is : (k : ℕ) → k < images_in d → installed_entry (record_for d) 0 (words_for d) k ≡ entry_words_in d k
  entry_is k h =
      λ i.
      record {
        type_guid = guid_is (wanted d) possible k h i;
        numbers =
            record {
              permissions = word_is k 0 h (omega arith) i;
              maximum_size = word_is k 1 h (omega arith) i;
              lowest_accepted_version = word_is k 2 h (omega arith) i;
              version = word_is k 3 h (omega arith) i;
              accepted = (bank0_is (wanted d) possible k h).0 i;
            };
      }

  boot_is : correct_boot_of (started_session (record_for d) 0) ≡ correct_boot_in d
  unfolding started_session
  boot_is =
      rw (header_is (wanted d) possible).1.1.0
      (boot_of (eqb (correct_boot_in d) 1) (eqb (state (record_for d) (active_for (wanted d))) accepted_bank)
      ∙ boolean_is (correct_boot_in d) (taken_holds d t).1.correct_boot)

  same_is : installed (record_for d) 0 (words_for d) ≡ shown d
  same_is =
      rw (
        images_is (wanted d) possible,
        boot_is,
        up_to_same (images_in d) (installed_entry (record_for d) 0 (words_for d)) (entry_words_in d) entry_is,
      )
      (sym (held_shown d (images_in d) (correct_boot_in d) (entry_words_in d) (taken_holds d t).0 t))

pub taken_shown : (d : List ℕ) → Bytes d → Taken d → SomeShow d
taken_shown d b t =
    let p = possible d b t in
    let read_is = area_record (wanted d) p in
    record {
      area = witness_area (wanted d);
      booted = 0;
      words = words_for d;
      area_bytes = area_small (wanted d) p;
      words_small = words_low d b t;
      shows =
          record {
            started = area_starts (wanted d) p;
            enough = rw (read_is, images_is (wanted d) p) (omega (arith, up_to_length (images_in d * words_an_image) (word_in d)));
            same = rw read_is (same_is d b t);
          };
    }
