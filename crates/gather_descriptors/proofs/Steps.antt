-- What one call of a reader makes of the definitions. Assumes nothing.
use mathlib.Core.Path.{◌≡◌, refl, sym, ap, ◌∙◌}
use mathlib.Core.Bool.{true, false, cond, and-false}
use mathlib.Core.List.{List, ◌∷◌, ◌++◌, append-nil}
use Prim.Native.Nat.{ℕ, zero, suc, ◌+◌, ◌-◌, ◌%◌, ◌<◌, ◌≤◌}
use native.Mathlib.Nat.{add-zero}
use native.Mathlib.Numerals.{sub-one, add-one}
use native.Mathlib.Omega.{arith}
use borrow.Author.Tests.{leb-true, le-leb, lt-leb, eqb-true, eq-eqb, ne_eqb}
use lib.Dec.{leb, eqb}
use lib.ListN.{length, take, set, length-set}
use lib.Seq.{take-suc-set, append_snoc}
use Rattle.fields.specs.Number.{le}
use Rattle.fields.proofs.Tests.{both}
use Rattle.std.specs.Prelude.{Result, Ok, Err}
use Rattle.refusals.specs.declared.Refusal.{Refusal}
use Rattle.refusals.specs.declared.Refusal.TheVariants.{DescriptorCount, DescriptorAddress}
use Rattle.gather_window.specs.Window.{within, descriptor_fits}
use Rattle.gather_descriptors.specs.Reading.{Reading, refused, whole, with_descriptor, length_of, address_of, jump_or_end, data_block, walk}
use Rattle.gather_descriptors.specs.Scratch.{ScratchHolds}
use Rattle.gather_descriptors.specs.declared.Listed.{Listed}

-- both ends, of a descriptor and of a block
pub within_ends : (B N a n : ℕ) → within B N a n ≡ true → (B ≤ a) × (a + n ≤ B + N)
unfolding within
within_ends B N a n e =
    let h = both (leb B a) (leb (a + n) (B + N)) e in
    (leb-true B a h.0, leb-true (a + n) (B + N) h.1)

pub descriptor_ends : (B N a : ℕ) → descriptor_fits B N a ≡ true → (B ≤ a) × (a + 16 ≤ B + N)
unfolding descriptor_fits
descriptor_ends B N a e = within_ends B N a 16 (both (eqb (a % 8) 0) (within B N a 16) e).1

pub descriptor_aligned : (B N a : ℕ) → descriptor_fits B N a ≡ true → a % 8 ≡ 0
unfolding descriptor_fits
descriptor_aligned B N a e = eqb-true (a % 8) 0 (both (eqb (a % 8) 0) (within B N a 16) e).0

-- and back
pub within_of : (B N a n : ℕ) → B ≤ a → a + n ≤ B + N → within B N a n ≡ true
unfolding within
within_of B N a n low high = rw (le-leb B a low, le-leb (a + n) (B + N) high)

pub fits_of : (B N a : ℕ) → a % 8 ≡ 0 → B ≤ a → a + 16 ≤ B + N → descriptor_fits B N a ≡ true
unfolding descriptor_fits
fits_of B N a aligned low high = rw (eq-eqb (a % 8) 0 aligned, within_of B N a 16 low high)

-- the two numbers of the descriptor at the address d, by its offset
pub length_at : (w : List ℕ) (B d : ℕ) → length_of w B d ≡ le 8 w (d - B)
unfolding length_of
length_at w B d = refl

pub address_at : (w : List ℕ) (B d : ℕ) → B ≤ d → address_of w B d ≡ le 8 w (d - B + 8)
unfolding address_of
address_at w B d low =
    let e : d + 8 - B ≡ d - B + 8 = omega arith in
    rw e

-- what follows a descriptor of these two numbers that stands at a
abbrev pub rest : (l : ℕ) (w : List ℕ) (B a t len adr : ℕ) → Reading
rest l w B a t len adr =
    cond (eqb len 0) (jump_or_end adr t (λ next. walk l w B next t)) (data_block B (length w) adr len t (walk l w B (a + 16)))

pub walk_more : (l : ℕ) (w : List ℕ) (B a t : ℕ) → (l ≡ 0 → ⊥)
    → walk l w B a t ≡ cond (descriptor_fits B (length w) a) (with_descriptor a (rest (l - 1) w B a t (length_of w B a) (address_of w B a))) (refused DescriptorAddress)
unfolding walk
walk_more zero w B a t f = absurd (f refl)
walk_more (suc k) w B a t f = rw (sub-one (suc k))

kept_after : (X : Reading) (k d : ℕ) (old new : List ℕ) (r : Result Listed Refusal) → k < length old → ScratchHolds X (k + 1) (set old k d) new r → ScratchHolds (with_descriptor d X) k old new r
unfolding ScratchHolds with_descriptor
kept_after (refused n) k d old new r lt h = h
kept_after (whole t ds) k d old new r lt h =
    let e : k + length (d ∷ ds) ≡ k + 1 + length ds = omega arith in
    rw e (
      h.0,
      h.1 ∙ ap (λ (j : ℕ). take j (set old k d) ++ ds) (add-one k) ∙ ap (λ (x : List ℕ). x ++ ds) (take-suc-set old k d lt) ∙ append_snoc (take k old) d ds,
      h.2 ∙ length-set old k d,
    )

module _ (w : List ℕ) (B at t l : ℕ) (old new : List ℕ) (some : l ≡ 0 → ⊥) where
  pub bad_address : descriptor_fits B (length w) (B + at) ≡ false → ScratchHolds (walk l w B (B + at) t) (256 - l) old new (Err DescriptorAddress)
  unfolding ScratchHolds
  bad_address e = rw (walk_more l w B (B + at) t some, e)

  -- past the address test: the descriptor stands first, and what follows goes by its two numbers
  pub went_on : (r : Result Listed Refusal) (len adr : ℕ) → descriptor_fits B (length w) (B + at) ≡ true → len ≡ le 8 w at → adr ≡ le 8 w (at + 8)
      → l ≤ 256 → length old ≡ 256 → (X : Reading) → rest (l - 1) w B (B + at) t len adr ≡ X
      → ScratchHolds X (256 - (l - 1)) (set old (256 - l) (B + at)) new r
      → ScratchHolds (walk l w B (B + at) t) (256 - l) old new r
  went_on r len adr e el ea le lo X ex h =
      let m : 256 - (l - 1) ≡ 256 - l + 1 = omega arith in
      let o : B + at - B ≡ at = omega arith in
      let x : rest (l - 1) w B (B + at) t (length_of w B (B + at)) (address_of w B (B + at)) ≡ X =
      rw (length_at w B (B + at), address_at w B (B + at) (omega arith), o, ← el, ← ea) ex in
      rw (walk_more l w B (B + at) t some, e, x) (kept_after X (256 - l) (B + at) old new r (omega arith) (rw m at h))

pub ended : (a t : ℕ) (next : ℕ → Reading) (k : ℕ) (old : List ℕ) → a ≡ 0 → ScratchHolds (jump_or_end a t next) k old old (Ok (record { count = k; total = t }))
unfolding ScratchHolds jump_or_end
ended a t next k old e = rw (e, add-zero) (refl, sym (append-nil (take k old)), refl)

pub none_left : (w : List ℕ) (B a t l k : ℕ) (old new : List ℕ) → l ≡ 0 → ScratchHolds (walk l w B a t) k old new (Err DescriptorCount)
unfolding ScratchHolds walk
none_left w B a t l k old new e = rw e

pub below : (w : List ℕ) (B a t l k : ℕ) (old new : List ℕ) → (l ≡ 0 → ⊥) → a < B → ScratchHolds (walk l w B a t) k old new (Err DescriptorAddress)
unfolding ScratchHolds descriptor_fits within
below w B a t l k old new some h = rw walk_more (simp (lt-leb B a h, and-false))

pub jumped_on : (w : List ℕ) (B a t l k : ℕ) (old new : List ℕ) (r : Result Listed Refusal) → (a ≡ 0 → ⊥) → ScratchHolds (walk l w B a t) k old new r
    → ScratchHolds (jump_or_end a t (λ next. walk l w B next t)) k old new r
unfolding jump_or_end
jumped_on w B a t l k old new r some h = rw (ne_eqb a 0 some) h
