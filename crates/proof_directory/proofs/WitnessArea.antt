-- An area whose copy 0 holds the record of WitnessRecord.antt: that record is read, and start-up takes area and bank.
-- Assumes nothing.
use mathlib.Core.Path.{◌≡◌, ◌∙◌}
use mathlib.Core.Bool.{true}
use mathlib.Core.List.{List, ◌++◌}
use Prim.Native.Nat.{ℕ, ◌-◌}
use native.Mathlib.Omega.{arith}
use borrow.Author.Tests.{eq-eqb}
use lib.ListN.{length, replicate, length-append, length-replicate}
use lib.Seq.{take_at}
use Rattle.fields.specs.Number.{Bytes}
use Rattle.fields.proofs.Bytes.{append_bytes, zero_bytes}
use Rattle.refusal_order.specs.Decide.{passed, decide}
use Rattle.record_layout.specs.Layout.{area_size, copy_size, copy0, record_of}
use Rattle.record_layout.specs.Rules.{sound_copy}
use Rattle.record_layout.proofs.Copies.{front_record}
use Rattle.record_copies.specs.Copies.{source_of, read_from, record_read}
use Rattle.update_admission.specs.Rows.{read_tests}
use Rattle.update_start_up.specs.StartUp.{start_up_tests}
use Rattle.proof_directory.proofs.WitnessRecord.{Wanted, Possible, size_for, witness_record, record_long, record_small, banks_is}
use Rattle.proof_directory.proofs.WitnessRules.{witness_sound}

-- the record with zeros behind it, and a second copy of zeros
abbrev rest : Wanted → List ℕ
rest x = replicate (copy_size - size_for x) 0

unfoldable pub witness_area : Wanted → List ℕ
witness_area x = (witness_record x ++ rest x) ++ replicate copy_size 0

module _ (x : Wanted) (p : Possible x) where
  copy_long : length (witness_record x ++ rest x) ≡ copy_size
  copy_long =
      length-append (witness_record x) (rest x)
      ∙ omega (arith, length-replicate {A = ℕ} (copy_size - size_for x) 0, record_long x p, p.few)

  area_long : length (witness_area x) ≡ area_size
  unfolding witness_area
  area_long =
      length-append (witness_record x ++ rest x) (replicate copy_size 0) ∙ omega (arith, copy_long, length-replicate {A = ℕ} copy_size 0)

  pub area_small : Bytes (witness_area x)
  unfolding witness_area
  area_small =
      append_bytes (witness_record x ++ rest x) (replicate copy_size 0)
      (append_bytes (witness_record x) (rest x) (record_small x p) (zero_bytes (copy_size - size_for x))) (zero_bytes copy_size)

  copy_record : record_of (copy0 (witness_area x)) ≡ witness_record x
  unfolding witness_area
  copy_record =
      rw (take_at (witness_record x ++ rest x) (replicate copy_size 0) copy_size copy_long)
      (front_record (witness_record x) (rest x) (witness_sound x p))

  copy_sound : sound_copy (copy0 (witness_area x)) ≡ true
  unfolding sound_copy
  copy_sound = rw copy_record (witness_sound x p)

  pub area_record : record_read (witness_area x) ≡ witness_record x
  unfolding source_of read_from
  area_record = rw copy_sound copy_record

  pub area_starts : decide (start_up_tests (witness_area x) 0) ≡ passed
  unfolding decide start_up_tests read_tests
  area_starts = rw (area_record, banks_is x p, copy_sound, eq-eqb (length (witness_area x)) area_size area_long)
