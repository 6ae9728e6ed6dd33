-- Lines written one behind the other, in a loop. Assumes nothing.
use mathlib.Core.Path.{◌≡◌}
use mathlib.Core.Logic.{⊎_elim}
use mathlib.Core.List.{List, ◌++◌}
use Prim.Native.Nat.{ℕ, zero, suc, ◌+◌, ◌*◌, ◌≤◌, ◌<◌}
use native.Mathlib.Nat.{suc-mul}
use native.Mathlib.Numerals.{add-one}
use native.Mathlib.Omega.{arith}
use lib.ListN.{length, length-append}
use Rattle.fields.proofs.Tests.{le_or_lt}
use Rattle.report_text.specs.Text.{ascending}
use Rattle.report_text.specs.Wrote.{Room, Wrote}
use Rattle.report_text.proofs.Writing.{wrote_none, wrote_then, room_then}

module _ (text : ℕ → List ℕ) where
  ascending_more : (b : ℕ) → ascending (b + 1) text ≡ ascending b text ++ text b
  unfolding ascending
  ascending_more b = rw add-one

  -- what is written up to b, and the text of b, are part of the whole
  ascending_in : (n b : ℕ) → b < n → length (ascending b text ++ text b) ≤ length (ascending n text)
  unfolding ascending
  ascending_in zero b h = absurd (omega arith)
  ascending_in (suc n) b h =
      ⊎_elim
      (λ le. let z : b ≡ n = omega arith in rw z (omega arith))
      (λ lt. rw (length-append (ascending n text) (text n)) (omega (arith, ascending_in n b lt)))
      (le_or_lt n b)

  -- where each is at most so long, so are all together
  pub ascending_short : (n m : ℕ) → ((b : ℕ) → b < n → length (text b) ≤ m) → length (ascending n text) ≤ n * m
  unfolding ascending
  ascending_short zero m h = omega arith
  ascending_short (suc n) m h =
      rw length-append (omega (arith, ascending_short n m (λ b lt. h b (omega arith)), h n (omega arith), suc-mul n m))

  module _ (k n : ℕ) (out : List ℕ) (room : Room k (ascending n text) out) where
    pub lines_none : Wrote k k (ascending 0 text) out out
    unfolding ascending
    lines_none = wrote_none k out

    pub lines_room : (j b : ℕ) (new : List ℕ) → b < n → Wrote k j (ascending b text) out new → Room j (text b) new
    lines_room j b new h p = room_then k j (ascending b text) (text b) out new (omega (arith, ascending_in n b h)) p

    pub lines_more : (j m b : ℕ) (new last : List ℕ) → b < n → Wrote k j (ascending b text) out new → Wrote j m (text b) new last
        → Wrote k m (ascending (b + 1) text) out last
    lines_more j m b new last h p q =
        rw (ascending_more b) (wrote_then k j m (ascending b text) (text b) out new last (omega (arith, ascending_in n b h)) p q)
