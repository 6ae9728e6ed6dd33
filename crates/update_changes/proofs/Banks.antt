-- The header and the banks of a sound record. Assumes nothing.
use mathlib.Core.Path.{◌≡◌}
use mathlib.Core.Bool.{true}
use mathlib.Core.List.{List}
use Prim.Native.Nat.{ℕ, ◌+◌, ◌≤◌, ◌<◌}
use native.Mathlib.Nat.{mod-lt}
use native.Mathlib.Omega.{arith}
use Rattle.record_layout.specs.Layout.{bank_limit, active, bank_count, image_count}
use Rattle.record_layout.specs.Rules.{sound}
use Rattle.record_layout.specs.Sized.{Sized}
use Rattle.record_layout.proofs.Sound.{sound_sized, sound_named}
use Rattle.update_changes.specs.NewRecord.{update_bank_of}

module _ (r : List ℕ) (e : sound r ≡ true) where
  pub sized : Sized r (bank_count r) (image_count r)
  sized = sound_sized r e

  pub banks_few : (2 ≤ bank_count r) × (bank_count r ≤ bank_limit)
  banks_few = (sized.banks_low, sized.banks_high)

  pub update_in : update_bank_of r < bank_count r
  update_in = mod-lt (active r + 1) (omega (arith, sized.banks_low))

  pub update_low : update_bank_of r < bank_limit
  update_low = omega (arith, update_in, sized.banks_high)

  pub active_low : active r < bank_limit
  active_low = omega (arith, (sound_named r e).0, sized.banks_high)
