-- What a place and each refusal are proved to mean where `gathered` gives them, said without the walk and without the
-- search (proofs/Law.antt). Names as in specs/Gather.antt. Assumes nothing.
use Rattle.std.specs.Prelude.{ℕ, ◌+◌, ◌-◌, ◌≤◌, ◌<◌, List, ◌⊎◌, ◌≡◌, length, get_or}
use Rattle.refusals.specs.Number.{number_of}
use Rattle.refusals.specs.declared.Refusal.{Refusal}
use Rattle.gather_descriptors.specs.Law.{Faultless, FirstFault, ComesBack}
use Rattle.gather_descriptors.specs.Scratch.{lengths}
use Rattle.gather_place.specs.Law.{LowestFree, NoneFree}
use Rattle.gather_blocks.specs.Blocks.{blocks}
use Rattle.gather.specs.Gather.{refusal, gathered}

-- success: the blocks in list order at the lowest free place, and nothing else changed (G12 to G14)
pub record Succeeded (w : List ℕ) (B first p total : ℕ) (afterwards : List ℕ) : Type 0 where
  pub descriptors : List ℕ
  pub list : Faultless w B first descriptors
  pub sum : total ≡ lengths w B descriptors
  pub some : 0 < total
  pub lowest : LowestFree w B total descriptors p
  pub size : length (blocks w B descriptors) ≡ total
  -- the window afterwards: as long as before, at the place the blocks' bytes, every other byte as it was
  pub length_kept : length afterwards ≡ length w
  pub at_place : (k : ℕ) → k < total → get_or afterwards (p - B + k) 0 ≡ get_or (blocks w B descriptors) k 0
  pub outside : (i : ℕ) → (i < p - B) ⊎ (p - B + total ≤ i) → get_or afterwards i 0 ≡ get_or w i 0

-- N6: the total is 0
pub record WasEmpty (w : List ℕ) (B first : ℕ) (afterwards : List ℕ) : Type 0 where
  pub descriptors : List ℕ
  pub list : Faultless w B first descriptors
  pub zero : lengths w B descriptors ≡ 0
  pub unchanged : afterwards ≡ w

-- N7: no place is free
pub record HadNoPlace (w : List ℕ) (B first : ℕ) (afterwards : List ℕ) : Type 0 where
  pub descriptors : List ℕ
  pub list : Faultless w B first descriptors
  pub some : 0 < lengths w B descriptors
  pub none : NoneFree w B (lengths w B descriptors) descriptors
  pub unchanged : afterwards ≡ w

-- N1 to N5, by the list's first fault (N108)
pub record HadFault (w : List ℕ) (B first number : ℕ) (afterwards : List ℕ) : Type 0 where
  pub fault : Refusal
  pub numbered : number_of fault ≡ number
  pub answered : FirstFault w B first fault
  pub unchanged : afterwards ≡ w

-- each of them is given exactly if it is the list's first fault; a list that comes back to a descriptor gets 2 or 5
-- (G17)
pub record ListRefusals (w : List ℕ) (B first : ℕ) : Type 0 where
  pub only : (n : ℕ) (w' : List ℕ) → n ≤ 5 → gathered w B first ≡ (refusal n, w') → HadFault w B first n w'
  pub there : (n : Refusal) → FirstFault w B first n → gathered w B first ≡ (refusal (number_of n), w)
  pub loop : ComesBack w B first → (gathered w B first ≡ (refusal 2, w)) ⊎ (gathered w B first ≡ (refusal 5, w))
