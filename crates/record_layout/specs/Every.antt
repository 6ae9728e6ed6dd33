-- Tests at the numbers below a limit. Assumes nothing.
use Rattle.std.specs.Prelude.{ℕ, zero, suc, Bool, true, cond, not, ◌&&◌, List, ltb}
use Rattle.fields.specs.Guid.{same}

-- whether a test holds at every number below n
unfoldable pub below : ℕ → (ℕ → Bool) → Bool
below zero test = true
below (suc n) test = below n test && test n

-- the least number below n at which a test holds; n where there is none
unfoldable pub least : ℕ → (ℕ → Bool) → ℕ
least zero test = zero
least (suc n) test = cond (ltb (least n test) n) (least n test) (cond (test n) n (suc n))

-- whether the GUIDs at the numbers below n are all different: each from those before it
abbrev pub distinct : ℕ → (ℕ → List ℕ) → Bool
distinct n guidAt = below n (λ i. below i (λ j. not (same (guidAt j) (guidAt i))))
