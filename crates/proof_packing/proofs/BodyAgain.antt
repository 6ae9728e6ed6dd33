-- A body whose first item stands right after the list of offsets is the bytes of its items. b is the bytes of the body.
-- Assumes nothing.
use mathlib.Core.Path.{◌≡◌, sym, ap, ◌∙◌}
use mathlib.Core.Bool.{true, cond}
use mathlib.Core.List.{List, ◌++◌, append_assoc, append-nil}
use Prim.Native.Nat.{ℕ, ◌+◌, ◌*◌, ◌<◌}
use native.Mathlib.Omega.{arith}
use borrow.Author.Tests.{lt-ltb, le-ltb}
use lib.Dec.{ltb}
use lib.ListN.{length, drop}
use lib.Seq.{drop-length}
use Rattle.fields.specs.Number.{Bytes, bytes}
use Rattle.fields.specs.Joined.{joined}
use Rattle.fields.proofs.Bytes.{drop_number}
use Rattle.fields.proofs.Part.{part_length, part_then}
use Rattle.fields.proofs.Joined.{joined_same, joined_end, rejoined}
use Rattle.capsule_body.specs.Body.{body_version, drivers, payloads, items, offset, list_end, body_right, item_end, item}
use Rattle.capsule_body.proofs.Body.{version_one, list_fits, item_in}
use Rattle.capsule_contents.specs.Contents.{Contents, items_of, item_bytes, offset_of, body_bytes}
use Rattle.proof_packing.specs.Tight.{items_start}

-- where item k begins; behind the last one, where the body ends
abbrev place : List ℕ → ℕ → ℕ
place b k = cond (ltb k (items b)) (offset b k) (length b)

module _ (b : List ℕ) (small : Bytes b) (right : body_right b ≡ true) where
  place_in : (k : ℕ) → k < items b → place b k ≡ offset b k
  place_in k lt = rw (lt-ltb k (items b) lt)

  -- ---- the items
  item_then : (k : ℕ) → k < items b → drop (place b k) b ≡ item b k ++ drop (place b (k + 1)) b
  unfolding item item_end
  item_then k lt = rw (place_in k lt) (part_then b (offset b k) (item_end b k) (omega (arith, (item_in b right k lt).0)))

  item_ends : (k : ℕ) → k < items b → place b k + length (item b k) ≡ place b (k + 1)
  unfolding item item_end
  item_ends k lt =
      let i = item_in b right k lt in
      rw (place_in k lt) (omega (arith, part_length b (offset b k) (item_end b k) i.1))

  -- ---- the list of offsets
  offset_then : (k : ℕ) → k < items b → drop (8 + 8 * k) b ≡ bytes 8 (offset b k) ++ drop (8 + 8 * (k + 1)) b
  unfolding offset
  offset_then k lt =
      let z : 8 + 8 * k + 8 ≡ 8 + 8 * (k + 1) = omega arith in
      rw z at (drop_number 8 b (8 + 8 * k) small (omega (arith, list_fits b right)))

  module _ (first : items_start b ≡ list_end b) where
    items_again : drop (list_end b) b ≡ joined (items b) (item b)
    unfolding items_start
    items_again =
        ap (λ (k : ℕ). drop k b) (sym first)
        ∙ rejoined (items b) (place b) b (item b) item_then
        ∙ rw (le-ltb (items b) (items b) (omega arith), drop-length b) (append-nil (joined (items b) (item b)))

    offsets_again : drop 8 b ≡ joined (items b) (λ k. bytes 8 (offset b k)) ++ joined (items b) (item b)
    offsets_again =
        rejoined (items b) (λ k. 8 + 8 * k) b (λ k. bytes 8 (offset b k)) offset_then
        ∙ ap (λ (l : List ℕ). joined (items b) (λ k. bytes 8 (offset b k)) ++ l) items_again

    -- of contents with the same counts and items
    module _ (c : Contents) (d : c.drivers ≡ drivers b) (p : c.payloads ≡ payloads b)
        (each : (k : ℕ) → k < items b → item_bytes c k ≡ item b k) where
      offset_again : (k : ℕ) → k < items b → offset_of c k ≡ offset b k
      unfolding offset_of items_start
      offset_again k lt =
          let same = joined_same k (item_bytes c) (item b) (λ j l. each j (omega arith)) in
          let ends = joined_end k (place b) (item b) (λ j l. item_ends j (omega arith)) in
          rw same (omega (arith, ends, first, place_in k lt))

      pub body_again : body_bytes c ≡ b
      unfolding body_bytes body_version drivers payloads
      body_again =
          let fits = list_fits b right in
          let count : items_of c ≡ items b = omega arith in
          let wanted : ℕ → List ℕ = λ k. bytes 8 (offset b k) in
          let offsets =
          ap (λ (n : ℕ). joined n (λ k. bytes 8 (offset_of c k))) count
          ∙ joined_same (items b) (λ k. bytes 8 (offset_of c k)) wanted (λ k lt. ap (bytes 8) (offset_again k lt)) in
          let own = ap (λ (n : ℕ). joined n (item_bytes c)) count ∙ joined_same (items b) (item_bytes c) (item b) each in
          rw (offsets, own, d, p)
          (sym
          (drop_number 4 b 0 small (omega arith)
          ∙ rw (version_one b right, drop_number 2 b 4 small (omega arith), drop_number 2 b 6 small (omega arith), offsets_again)
          (simp append_assoc)))
