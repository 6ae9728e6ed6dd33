-- What is known of the header of a sound record. Assumes nothing.
use mathlib.Core.Path.{◌≡◌}
use mathlib.Core.Bool.{true}
use mathlib.Core.List.{List}
use Prim.Native.Nat.{ℕ, ◌≤◌, ◌<◌}
use lib.ListN.{length}
use Rattle.record_layout.specs.Layout.{header_size, bank_limit, image_limit, active, previous, bank_count, image_count}
use Rattle.record_layout.specs.Rules.{sound}
use Rattle.record_layout.proofs.Sound.{sound_long, sound_named}
use Rattle.update_changes.specs.NewRecord.{update_bank_of}
use Rattle.update_changes.proofs.Banks as banks

-- the header of a sound record is there, and its numbers have limits
pub record Known (r : List ℕ) : Type 0 where
  pub header : header_size ≤ length r
  pub banks_low : 2 ≤ bank_count r
  pub banks_high : bank_count r ≤ bank_limit
  pub images_high : image_count r ≤ image_limit
  pub active_low : active r < bank_count r
  pub previous_low : previous r < bank_count r
  pub update_low : update_bank_of r < bank_count r

pub known : (r : List ℕ) → sound r ≡ true → Known r
known r e =
    let s = banks.sized r e in
    let n = sound_named r e in
    record {
      header = sound_long r e;
      banks_low = s.banks_low;
      banks_high = s.banks_high;
      images_high = s.images_high;
      active_low = n.0;
      previous_low = n.1;
      update_low = banks.update_in r e;
    }
