-- What a sound record is known by, as far as the report shows it. Assumes nothing.
use mathlib.Core.Path.{◌≡◌}
use mathlib.Core.Bool.{Bool, true, false, cond, ◌||◌}
use mathlib.Core.Logic.{⊎_elim}
use mathlib.Core.List.{List}
use Prim.Native.Nat.{ℕ, ◌≤◌, ◌<◌}
use native.Mathlib.Omega.{arith}
use borrow.Author.Tests.{eqb-true}
use lib.Dec.{eqb, ltb}
use Rattle.fields.proofs.Tests.{either}
use Rattle.record_layout.specs.Layout.{bank_limit, image_limit, record_limit, active, previous, size, state, bank_count, image_count}
use Rattle.record_layout.specs.Rules.{invalid, valid, accepted_bank, state_known, state_allowed, states_rule, rules, sound}
use Rattle.record_layout.proofs.Below.{below_each}
use Rattle.record_layout.proofs.Sizes.{record_high}
use Rattle.record_layout.proofs.Sound.{all_of, sound_sized, sound_size, sound_named}

-- a state that rule 12 allows is a byte
known_state : (s : ℕ) → state_known s ≡ true → s ≤ 255
known_state s e =
    ⊎_elim
    (λ h. omega (arith, eqb-true s invalid h))
    (λ h. ⊎_elim (λ v. omega (arith, eqb-true s valid v)) (λ v. omega (arith, eqb-true s accepted_bank v)) (either (eqb s valid) (eqb s accepted_bank) h))
    (either (eqb s invalid) (eqb s valid || eqb s accepted_bank) e)

allowed_state : (s : ℕ) (b : Bool) → cond b (state_known s) (eqb s invalid) ≡ true → s ≤ 255
allowed_state s true e = known_state s e
allowed_state s false e = omega (arith, eqb-true s invalid e)

module _ (r : List ℕ) (e : sound r ≡ true) where
  pub few_banks : bank_count r ≤ bank_limit
  few_banks = (sound_sized r e).banks_high

  pub few_images : image_count r ≤ image_limit
  few_images = (sound_sized r e).images_high

  pub small_size : size r ≤ record_limit
  small_size = omega (arith, record_high r (bank_count r) (image_count r) (sound_sized r e), sound_size r e)

  pub small_active : active r < bank_limit
  small_active = omega (arith, (sound_named r e).0, few_banks)

  pub small_previous : previous r < bank_limit
  small_previous = omega (arith, (sound_named r e).1, few_banks)

  pub state_byte : (b : ℕ) → b < bank_count r → state r b ≤ 255
  unfolding sound states_rule state_allowed
  state_byte b q =
      allowed_state (state r b) (ltb b (bank_count r))
      (below_each (λ (k : ℕ). state_allowed (bank_count r) k (state r k)) bank_limit b (all_of rules r e).1.1.1.1.1.1.1.1.1.1.1.0 (omega (arith, few_banks)))
