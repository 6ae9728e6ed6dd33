-- C34: what is packed the reader takes; it shows all that was given, at its place, and is tight. Assumes nothing.
use mathlib.Core.Path.{◌≡◌, refl, sym, ap}
use mathlib.Core.List.{List, ◌++◌}
use Prim.Native.Nat.{ℕ, ◌+◌}
use native.Mathlib.Omega.{arith}
use lib.ListN.{length, take, drop}
use lib.Seq.{take-append_seam}
use Rattle.fields.specs.Number.{put}
use Rattle.refusal_order.specs.Decide.{Decision, passed, refusal, decide, Reply, gives, refuses}
use Rattle.capsule_contents.specs.Contents.{capsule_bytes}
use Rattle.capsule_contents.specs.Lent.{Lent, contents_of}
use Rattle.capsule_packer.specs.Packer.{packer_tests, packed_by, packed}
use Rattle.proof_packing.specs.RoundTrip.{Typed, PackedTaken}
use Rattle.proof_packing.proofs.PackedGood.{packed_good}
use Rattle.proof_packing.proofs.CapsuleTaken.{taken, tightly}
use Rattle.proof_packing.proofs.CapsuleShown.{same_shown, placed_shown}

-- a packer that gave a count passed all tests: it is the length of the capsule, which stands at the front
gave : (x : Decision) (capsule out new : List ℕ) (n : ℕ) → ◌≡◌ {A = Reply ℕ × List ℕ} (packed_by x capsule out) (gives n, new)
    → (x ≡ passed) × (take n new ≡ capsule)
unfolding packed_by put
gave passed capsule out new n e =
    let count : gives (length capsule) ≡ gives n = ap (λ (p : Reply ℕ × List ℕ). p.0) e in
    let slice : capsule ++ drop (0 + length capsule) out ≡ new = ap (λ (p : Reply ℕ × List ℕ). p.1) e in
    let same : n ≡ length capsule = cc in
    (refl, rw (same, ← slice) (take-append_seam capsule (drop (0 + length capsule) out)))
gave (refusal number values) capsule out new n e =
    let f : refuses number values ≡ gives n = ap (λ (p : Reply ℕ × List ℕ). p.0) e in
    let z : ◌≡◌ {A = ℕ} 0 1 = cc in
    absurd (omega arith)

pub packed_taken : (x : Lent) (out new : List ℕ) (n : ℕ) → Typed x → ◌≡◌ {A = Reply ℕ × List ℕ} (packed x out) (gives n, new)
    → PackedTaken (take n new) x
unfolding packed
packed_taken x out new n typed e =
    let c = contents_of x in
    let p = gave (decide (packer_tests x (length out))) (capsule_bytes c) out new n e in
    let good = packed_good x (length out) typed (sym p.0) in
    rw p.1
    (record {
      taken = taken c good;
      same = same_shown c good;
      placed = placed_shown c good;
      tightly = tightly c good;
    })
