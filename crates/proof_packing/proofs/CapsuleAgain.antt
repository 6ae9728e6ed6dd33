-- A tight capsule that the reader takes is the bytes of all that is the same as what is shown of it. s is the bytes of
-- the capsule. Assumes nothing.
use mathlib.Core.Path.{◌≡◌, refl, ap, ◌∙◌}
use mathlib.Core.Bool.{Bool, true, false, cond, ◌&&◌}
use mathlib.Core.List.{List, ◌++◌, append_assoc}
use Prim.Native.Nat.{ℕ, ◌+◌, ◌-◌, ◌≤◌, ◌<◌}
use native.Mathlib.Omega.{arith}
use borrow.Author.Tests.{eqb-true, ltb-true, ltb-false}
use lib.Dec.{eqb, ltb}
use lib.ListN.{length, drop, take-append-drop}
use Rattle.fields.specs.Number.{Bytes, bytes}
use Rattle.fields.specs.Guid.{guid}
use Rattle.fields.proofs.Tests.{both}
use Rattle.fields.proofs.Guid.{same_true}
use Rattle.fields.proofs.Bytes.{drop_bytes, drop_number}
use Rattle.capsule_header.specs.Header.{header_least, header_size, flags, capsule_image_size, fmp_guid, guid_right, body}
use Rattle.capsule_header.proofs.Header.{header_in, size_told, body_length}
use Rattle.capsule_body.specs.Body.{all, drivers, payloads, items, list_end, item}
use Rattle.capsule_body.proofs.Body.{all_at}
use Rattle.capsule_counts.specs.Count.{driver_count}
use Rattle.capsule_contents.specs.Contents.{Contents, payload_bytes, items_of, item_bytes}
use Rattle.capsule_contents.specs.Contents.{body_bytes, header_bytes, capsule_bytes}
use Rattle.proof_packing.specs.Tight.{items_start, payload_tight, tight}
use Rattle.proof_packing.specs.RoundTrip.{Taken, shown_payload, shown_contents, Same}
use Rattle.proof_packing.proofs.PayloadAgain.{payload_again}
use Rattle.proof_packing.proofs.BodyAgain.{body_again}
use Rattle.proof_packing.proofs.Shown.{item_bytes_lem, sound_of}
use Rattle.proof_packing.proofs.Shown.{drivers_shown, payloads_shown, driver_shown, right_shown, payload_shown}

-- the header, field behind field
header_again : (s : List ℕ) → Bytes s → 28 ≤ length s → (id : List ℕ) → guid s 0 ≡ id
    → id ++ bytes 4 (header_size s) ++ bytes 4 (flags s) ++ bytes 4 (capsule_image_size s) ++ drop 28 s ≡ s
unfolding guid header_size flags capsule_image_size
header_again s small long id e =
    simp append_assoc
    (rw (
      ← drop_number 4 s 24 small (omega arith),
      ← drop_number 4 s 20 small (omega arith),
      ← drop_number 4 s 16 small (omega arith),
      ← e,
    )
    (take-append-drop 16 s))

-- contents that are the same have the same items
item_same : (c d : Contents) → Same c d → (k : ℕ) → k < items_of c → item_bytes c k ≡ item_bytes d k
unfolding item_bytes
item_same c d same k lt = go (ltb k c.drivers) refl
  where
    go : (t : Bool) → ltb k c.drivers ≡ t
        → cond t (c.driver k) (payload_bytes (c.payload (k - c.drivers)))
        ≡ cond (ltb k d.drivers) (d.driver k) (payload_bytes (d.payload (k - d.drivers)))
    go true e = rw (← same.drivers, e) (same.driver k (ltb-true k c.drivers e))
    go false e =
        let low = ltb-false k c.drivers e in
        rw (← same.drivers, e) (ap payload_bytes (same.payload (k - c.drivers) (omega arith)))

module _ (s : List ℕ) (small : Bytes s) (taken : Taken s) (tightly : tight s ≡ true) where
  -- what tight asks
  asked : (header_size s ≡ header_least) × (items_start (body s) ≡ list_end (body s))
      × (all (λ j. payload_tight (item (body s) (drivers (body s) + j))) (payloads (body s)) ≡ true)
  unfolding tight
  asked =
      let first = eqb (header_size s) header_least in
      let second = eqb (items_start (body s)) (list_end (body s)) in
      let x = both (first && second) (all (λ j. payload_tight (item (body s) (drivers (body s) + j))) (payloads (body s))) tightly in
      let y = both first second x.0 in
      (eqb-true (header_size s) header_least y.0, eqb-true (items_start (body s)) (list_end (body s)) y.1, x.1)

  payload_bytes_lem : (j : ℕ) → j < payloads (body s) → payload_bytes (shown_payload s j) ≡ item (body s) (drivers (body s) + j)
  payload_bytes_lem j lt =
      let k = drivers (body s) + j in
      ap payload_bytes (payload_shown s taken j lt)
      ∙ payload_again (item (body s) k) (item_bytes_lem s k small) (right_shown s taken j lt)
      (all_at (λ i. payload_tight (item (body s) (drivers (body s) + i))) (payloads (body s)) j asked.2 lt)

  items_same : (k : ℕ) → k < items (body s) → item_bytes (shown_contents s) k ≡ item (body s) k
  unfolding item_bytes
  items_same k lt = go (ltb k (driver_count s)) refl
    where
      go : (t : Bool) → ltb k (driver_count s) ≡ t
          → cond t ((shown_contents s).driver k) (payload_bytes (shown_payload s (k - driver_count s))) ≡ item (body s) k
      go true e = driver_shown s taken k (omega (arith, drivers_shown s taken, ltb-true k (driver_count s) e))
      go false e =
          let low = ltb-false k (driver_count s) e in
          let d = drivers_shown s taken in
          let z : drivers (body s) + (k - driver_count s) ≡ k = omega arith in
          payload_bytes_lem (k - driver_count s) (omega arith) ∙ ap (item (body s)) z

  body_small : Bytes (body s)
  unfolding body
  body_small = drop_bytes (header_size s) s small

  body_start : body s ≡ drop header_least s
  unfolding body
  body_start = ap (λ (n : ℕ). drop n s) asked.0

  module _ (c : Contents) (same : Same c (shown_contents s)) where
    same_body : body_bytes c ≡ body s
    same_body =
        let d : c.drivers ≡ drivers (body s) = same.drivers ∙ drivers_shown s taken in
        let p : c.payloads ≡ payloads (body s) = same.payloads ∙ payloads_shown s taken in
        body_again (body s) body_small (sound_of s taken).offsets asked.1 c d p (λ k lt.
        item_same c (shown_contents s) same k (omega arith) ∙ items_same k lt)

    pub capsule_again : capsule_bytes c ≡ s
    unfolding capsule_bytes header_bytes guid_right
    capsule_again =
        let right = (sound_of s taken).sizes in
        let h = header_in s right in
        let size : header_least + length (body s) ≡ capsule_image_size s = omega (arith, body_length s right, asked.0, size_told s right) in
        let id = same_true (guid s 0) fmp_guid (sound_of s taken).guid in
        rw (same_body, size, body_start, same.flags)
        (rw asked.0 at (header_again s small (omega arith) fmp_guid id))
