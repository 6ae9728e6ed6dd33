-- Record version 2 is a format of crates/proof_format_cuts, and the product's list of stores a writer of it. Assumes
-- nothing.
use mathlib.Core.Path.{◌≡◌}
use mathlib.Core.Logic.{◌≢◌}
use mathlib.Core.Bool.{true}
use mathlib.Core.List.{List}
use Prim.Native.Nat.{ℕ, ◌+◌, ◌*◌, ◌/◌, ◌≤◌}
use native.Mathlib.Omega.{arith}
use lib.ListN.{length, get_or}
use Rattle.fields.specs.Number.{le}
use Rattle.record_layout.specs.Layout.{record_limit, bank_count, image_count}
use Rattle.record_layout.specs.Rules.{sound}
use Rattle.record_layout.specs.Sized.{Sized}
use Rattle.record_layout.proofs.Sizes as sizes
use Rattle.record_layout.proofs.Copies.{front_length}
use Rattle.record_layout.proofs.Sound.{sound_sized, sound_version}
use Rattle.proof_format_cuts.specs.Format.{FormatLaws, WriterLaws, Writable}
use Rattle.proof_format_cuts.specs.Theorem.{FormatCuts}
use Rattle.proof_format_cuts.proofs.Theorem.{format_cuts}
use Rattle.proof_record_cuts.specs.Version2.{version2, planned}
use Rattle.proof_record_cuts.proofs.Plan.{Plan, plan_of}

module _ (r : List ℕ) (h : sound r ≡ true) where
  abbrev sized : Sized r (bank_count r) (image_count r)
  sized = sound_sized r h

  -- the record's length, in words
  pub in_words : length r ≡ 4 * (10 + image_count r * (8 + 6 * bank_count r))
  in_words = sizes.in_words r (bank_count r) (image_count r) sized

  pub two_words : 8 ≤ length r
  two_words = omega (arith, in_words)

  pub whole_words : 4 * (length r / 4) ≡ length r
  whole_words = omega (arith, in_words)

  pub record_high : length r ≤ record_limit
  record_high = sizes.record_high r (bank_count r) (image_count r) sized

  marked : get_or r 4 0 ≢ 0
  unfolding le
  marked = omega (arith, sound_version r h)

pub version2_laws : FormatLaws version2
unfolding version2
version2_laws =
    record { size_told = front_length; version_marks = λ r h. marked r h; fits = λ r h. omega (arith, record_high r h) }

planned_plan : (c r : List ℕ) → Writable version2 c r → Plan c r (planned c r)
unfolding planned version2
planned_plan c r w =
    plan_of c r (two_words r w.is_sound) (whole_words r w.is_sound) (omega (arith, w.long, record_high r w.is_sound))
    w.bytes w.record_bytes

planned_laws : WriterLaws version2 planned
unfolding version2
planned_laws =
    record {
      inside = λ c r w. (planned_plan c r w).inside;
      between = λ c r n w. (planned_plan c r w).between n;
      ends = λ c r w. (planned_plan c r w).ends;
    }

-- the theorem of them
pub cuts : FormatCuts version2 planned
cuts = format_cuts version2 version2_laws planned planned_laws
