-- The reader takes a capsule that was packed, and it is tight. Assumes nothing.
use mathlib.Core.Path.{◌≡◌, refl, sym, ap, ◌∙◌}
use mathlib.Core.Bool.{Bool, true}
use mathlib.Core.List.{List, ◌++◌, append_assoc}
use mathlib.Core.Logic.{⊎_elim}
use Prim.Native.Nat.{ℕ, ◌+◌, ◌^◌, ◌<◌, ◌≤◌}
use native.Mathlib.Omega.{arith}
use borrow.Author.Tests.{lt-ltb, le-ltb, le-leb, eq-eqb}
use lib.ListN.{length, take, drop}
use lib.Seq.{take_at}
use Rattle.fields.specs.Number.{bytes}
use Rattle.fields.specs.Guid.{guid, same}
use Rattle.fields.specs.Joined.{joined}
use Rattle.fields.proofs.Tests.{le_or_lt}
use Rattle.fields.proofs.Number.{length_bytes}
use Rattle.fields.proofs.Guid.{same_refl}
use Rattle.fields.proofs.Words.{number_at}
use Rattle.fields.proofs.Stacked.{behind}
use Rattle.std.specs.Prelude.{Ok}
use Rattle.capsule_header.specs.Header.{header_size, flags, capsule_image_size, sizes_right, fmp_guid, guid_right, body}
use Rattle.capsule_body.specs.Body.{all, drivers, payloads, items, list_end, item}
use Rattle.capsule_body.proofs.Body.{all_each}
use Rattle.capsule_payloads.specs.Payload.{payload_right, payload_at_right, payloads_right}
use Rattle.capsule_check.specs.Verdict.{verdict}
use Rattle.capsule_contents.specs.Contents.{Contents, items_of, payload_bytes, offset_of, body_bytes, header_bytes, capsule_bytes}
use Rattle.capsule_contents.proofs.Lengths.{capsule_length}
use Rattle.proof_packing.specs.Tight.{items_start, payload_tight, tight}
use Rattle.proof_packing.proofs.Good.{Good}
use Rattle.proof_packing.proofs.PayloadFields.{payload_right_lem, payload_tight_lem}
use Rattle.proof_packing.proofs.BodyFields.{payload_bytes_lem, offset_next, offset_end, offset_rises, body_small}
use Rattle.proof_packing.proofs.BodyFields.{drivers_read, payloads_read, items_read, offset_read, item_read, body_right_lem}

module _ (c : Contents) (good : Good c) where
  abbrev s : List ℕ
  s = capsule_bytes c

  abbrev b : List ℕ
  b = body_bytes c

  abbrev size : ℕ
  size = 28 + length b

  -- ---- the header
  abbrev numbers : List ℕ
  numbers = bytes 4 28 ++ (bytes 4 c.flags ++ (bytes 4 size ++ b))

  at_0 : drop 0 s ≡ fmp_guid ++ numbers
  unfolding capsule_bytes header_bytes
  at_0 = simp append_assoc

  at_16 : drop 16 s ≡ numbers
  at_16 = behind s fmp_guid numbers 0 16 at_0 refl

  at_20 : drop 20 s ≡ bytes 4 c.flags ++ (bytes 4 size ++ b)
  at_20 = behind s (bytes 4 28) _ 16 4 at_16 (length_bytes 4 28)

  at_24 : drop 24 s ≡ bytes 4 size ++ b
  at_24 = behind s (bytes 4 c.flags) _ 20 4 at_20 (length_bytes 4 c.flags)

  pub body_at : drop 28 s ≡ b
  body_at = behind s (bytes 4 size) b 24 4 at_24 (length_bytes 4 size)

  pub header_read : header_size s ≡ 28
  unfolding header_size
  header_read = number_at 4 s 16 28 _ (omega arith) at_16

  pub flags_read : flags s ≡ c.flags
  unfolding flags
  flags_read = number_at 4 s 20 c.flags _ good.flags at_20

  size_read : capsule_image_size s ≡ size
  unfolding capsule_image_size
  size_read = number_at 4 s 24 size b (body_small c good) at_24

  pub body_read : body s ≡ b
  unfolding body
  body_read = rw header_read body_at

  sizes_right_lem : sizes_right s ≡ true
  unfolding sizes_right
  sizes_right_lem =
      let whole : capsule_image_size s ≡ length s = size_read ∙ sym (capsule_length c) in
      let in-it : header_size s ≤ capsule_image_size s = omega (arith, header_read, size_read) in
      let least : 28 ≤ header_size s = omega (arith, header_read) in
      rw (
        le-leb 28 (header_size s) least,
        le-leb (header_size s) (capsule_image_size s) in-it,
        eq-eqb (capsule_image_size s) (length s) whole,
      )

  guid_right_lem : guid_right s ≡ true
  unfolding guid_right guid
  guid_right_lem =
      let e : take 16 s ≡ fmp_guid = ap (λ (l : List ℕ). take 16 l) at_0 ∙ take_at fmp_guid numbers 16 refl in
      ap (λ (l : List ℕ). same l fmp_guid) e ∙ same_refl fmp_guid

  -- ---- the payloads
  pub payload_small : (j : ℕ) → j < c.payloads → length (payload_bytes (c.payload j)) < 2 ^ 32
  payload_small j h =
      let k = c.drivers + j in
      let l = ap length (payload_bytes_lem c j) in
      let next = offset_next c k in
      let last = offset_rises c (k + 1) (items_of c) (omega arith) in
      omega (arith, offset_end c, body_small c good)

  -- a test that each passes
  each_payload : (f : List ℕ → Bool) → ((j : ℕ) → j < c.payloads → f (payload_bytes (c.payload j)) ≡ true)
      → all (λ j. f (item b (drivers b + j))) (payloads b) ≡ true
  each_payload f passes =
      all_each (λ j. f (item b (drivers b + j))) (payloads b) (λ j lt.
      let h : j < c.payloads = rw (payloads_read c good) at lt in
      let in_items : c.drivers + j < items_of c = omega arith in
      rw (drivers_read c good, item_read c good (c.drivers + j) in_items, payload_bytes_lem c j) (passes j h))

  payloads_right_lem : payloads_right b ≡ true
  unfolding payloads_right payload_at_right
  payloads_right_lem = each_payload payload_right (λ j h. payload_right_lem (c.payload j) (good.payload j h) (payload_small j h))

  pub taken : verdict s ≡ Ok tt
  unfolding verdict
  taken =
      let long : 28 ≤ length s = omega (arith, capsule_length c) in
      rw (
        le-leb 28 (length s) long,
        sizes_right_lem,
        flags_read,
        good.persists,
        guid_right_lem,
        body_read,
        body_right_lem c good,
        payloads_right_lem,
      )

  -- ---- tight
  first_at : offset_of c 0 ≡ list_end b
  unfolding offset_of joined
  first_at = omega (arith, items_read c good)

  first_right : items_start b ≡ list_end b
  unfolding items_start
  first_right =
      let n = items_read c good in
      ⊎_elim
      (λ none.
      let z : items_of c ≡ 0 = omega arith in
      rw (le-ltb 0 (items b) none) (sym (offset_end c) ∙ ap (offset_of c) z ∙ first_at))
      (λ some. rw (lt-ltb 0 (items b) some) (offset_read c good 0 (omega arith) ∙ first_at))
      (le_or_lt (items b) 0)

  pub tightly : tight s ≡ true
  unfolding tight
  tightly =
      let each = each_payload payload_tight (λ j h. payload_tight_lem (c.payload j) (good.payload j h) (payload_small j h)) in
      rw (header_read, body_read, eq-eqb (items_start b) (list_end b) first_right, each)
