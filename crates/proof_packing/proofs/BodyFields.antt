-- The body of a capsule that was packed shows the counts, offsets and items that it was packed from, and is right.
-- Assumes nothing.
use mathlib.Core.Path.{◌≡◌, refl, sym, ap, ◌∙◌}
use mathlib.Core.Bool.{Bool, true, false, cond}
use mathlib.Core.List.{List, ◌++◌, append_assoc}
use mathlib.Core.Logic.{⊎_elim}
use Prim.Native.Nat.{ℕ, zero, suc, ◌+◌, ◌-◌, ◌*◌, ◌^◌, ◌<◌, ◌≤◌}
use native.Mathlib.Nat.{mul_comm}
use native.Mathlib.Numerals.{add-one}
use native.Mathlib.Omega.{arith}
use borrow.Author.Tests.{ltb-true, ltb-false, lt-ltb, le-ltb, le-leb, eq-eqb}
use lib.Dec.{ltb}
use lib.ListN.{length, drop}
use lib.Seq.{drop-append-le, drop-drop}
use Rattle.fields.specs.Number.{bytes}
use Rattle.fields.specs.Joined.{joined}
use Rattle.fields.proofs.Tests.{le_or_lt}
use Rattle.fields.proofs.Number.{length_bytes}
use Rattle.fields.proofs.Words.{number_at}
use Rattle.fields.proofs.Joined.{joined_at}
use Rattle.fields.proofs.Stacked.{behind, part_at, stacked_next, stacked_rises, stacked_at}
use Rattle.capsule_body.specs.Body.{body_version, drivers, payloads, items, offset, list_end, rises, offset_right}
use Rattle.capsule_body.specs.Body.{body_right, item_end, item}
use Rattle.capsule_body.proofs.Body.{all_each}
use Rattle.capsule_payloads.proofs.Payload.{header_ends}
use Rattle.capsule_contents.specs.Contents.{Contents, items_of, payload_bytes, item_bytes, offset_of, body_bytes}
use Rattle.capsule_contents.proofs.Lengths.{payload_length, body_length, capsule_length, offsets_length}
use Rattle.proof_packing.proofs.Good.{Good}

module _ (c : Contents) where
  -- an item by its kind
  pub driver_bytes : (k : ℕ) → k < c.drivers → item_bytes c k ≡ c.driver k
  unfolding item_bytes
  driver_bytes k h = rw (lt-ltb k c.drivers h)

  pub payload_bytes_lem : (j : ℕ) → item_bytes c (c.drivers + j) ≡ payload_bytes (c.payload j)
  unfolding item_bytes
  payload_bytes_lem j =
      let low : c.drivers ≤ c.drivers + j = omega arith in
      let e : c.drivers + j - c.drivers ≡ j = omega arith in
      rw (le-ltb (c.drivers + j) c.drivers low, e)

  pub offset_next : (k : ℕ) → offset_of c (k + 1) ≡ offset_of c k + length (item_bytes c k)
  unfolding offset_of
  offset_next k = omega (arith, stacked_next k (item_bytes c))

  pub offset_end : offset_of c (items_of c) ≡ length (body_bytes c)
  unfolding offset_of
  offset_end = sym (body_length c)

  pub offset_low : (k : ℕ) → 8 + 8 * items_of c ≤ offset_of c k
  unfolding offset_of
  offset_low k = omega arith

  pub offset_rises : (m n : ℕ) → m ≤ n → offset_of c m ≤ offset_of c n
  unfolding offset_of
  offset_rises m n h = omega (arith, stacked_rises m n (item_bytes c) h)

module _ (c : Contents) (good : Good c) where
  abbrev b : List ℕ
  b = body_bytes c

  abbrev n : ℕ
  n = items_of c

  abbrev list : ℕ → List ℕ
  list k = bytes 8 (offset_of c k)

  abbrev whole : List ℕ
  whole = joined n (item_bytes c)

  pub body_small : 28 + length b < 2 ^ 32
  body_small = omega (arith, capsule_length c, good.small)

  -- no item is empty
  pub filled : (k : ℕ) → k < n → 0 < length (item_bytes c k)
  filled k h =
      ⊎_elim
      (λ past.
      let j = k - c.drivers in
      let e : c.drivers + j ≡ k = omega arith in
      let p = c.payload j in
      let l = ap length (payload_bytes_lem c j) ∙ payload_length p (good.payload j (omega arith)).whole in
      let some : 0 < length (item_bytes c (c.drivers + j)) = omega (arith, (header_ends p.version).0) in
      rw e at some)
      (λ before. rw (driver_bytes c k before) (good.filled k before))
      (le_or_lt c.drivers k)

  -- ---- the fields in front
  at_0 : drop 0 b ≡ bytes 4 1 ++ (bytes 2 c.drivers ++ (bytes 2 c.payloads ++ (joined n list ++ whole)))
  unfolding body_bytes
  at_0 = simp append_assoc

  at_4 : drop 4 b ≡ bytes 2 c.drivers ++ (bytes 2 c.payloads ++ (joined n list ++ whole))
  at_4 = behind b (bytes 4 1) _ 0 4 at_0 (length_bytes 4 1)

  at_6 : drop 6 b ≡ bytes 2 c.payloads ++ (joined n list ++ whole)
  at_6 = behind b (bytes 2 c.drivers) _ 4 2 at_4 (length_bytes 2 c.drivers)

  at_8 : drop 8 b ≡ joined n list ++ whole
  at_8 = behind b (bytes 2 c.payloads) _ 6 2 at_6 (length_bytes 2 c.payloads)

  body_version_read : body_version b ≡ 1
  unfolding body_version
  body_version_read = number_at 4 b 0 1 _ (omega arith) at_0

  pub drivers_read : drivers b ≡ c.drivers
  unfolding drivers
  drivers_read = number_at 2 b 4 c.drivers _ (omega (arith, good.few)) at_4

  pub payloads_read : payloads b ≡ c.payloads
  unfolding payloads
  payloads_read = number_at 2 b 6 c.payloads _ (omega (arith, good.few)) at_6

  pub items_read : items b ≡ n
  items_read = rw (drivers_read, payloads_read)

  -- ---- the items
  pub item_at : (k : ℕ) → k < n → drop (offset_of c k) b ≡ item_bytes c k ++ drop (offset_of c (k + 1)) b
  unfolding offset_of
  item_at k h =
      let at : drop (8 + 8 * n) b ≡ whole = behind b (joined n list) whole 8 (8 * n) at_8 (offsets_length c) in
      let into : (m : ℕ) → drop (8 + 8 * n + m) b ≡ drop m whole =
      λ m. sym (drop-drop m (8 + 8 * n) b) ∙ ap (λ (l : List ℕ). drop m l) at in
      into (length (joined k (item_bytes c)))
      ∙ stacked_at n k (item_bytes c) h
      ∙ ap (λ (l : List ℕ). item_bytes c k ++ l) (sym (into (length (joined (k + 1) (item_bytes c)))))

  pub offset_read : (k : ℕ) → k < n → offset b k ≡ offset_of c k
  unfolding offset
  offset_read k h =
      let v = offset_of c k in
      let rest = drop (k * 8 + 8) (joined n list) in
      let at : drop (8 + 8 * k) b ≡ bytes 8 v ++ (rest ++ whole) =
      sym (drop-drop (8 * k) 8 b)
      ∙ ap (λ (l : List ℕ). drop (8 * k) l) at_8
      ∙ drop-append-le (8 * k) (joined n list) whole (omega (arith, offsets_length c))
      ∙ ap (λ (m : ℕ). drop m (joined n list) ++ whole) (mul_comm 8 k)
      ∙ rw (joined_at 8 n k list (λ i lt. length_bytes 8 (offset_of c i)) h) (append_assoc (bytes 8 v) rest whole) in
      number_at 8 b (8 + 8 * k) v (rest ++ whole) (omega (arith, offset_rises c k n (omega arith), offset_end c, body_small)) at

  pub end_read : (k : ℕ) → k < n → item_end b k ≡ offset_of c (k + 1)
  unfolding item_end
  end_read k h = rw items_read (go (ltb (k + 1) n) refl)
    where
      go : (t : Bool) → ltb (k + 1) n ≡ t → cond t (offset b (k + 1)) (length b) ≡ offset_of c (k + 1)
      go true e = offset_read (k + 1) (ltb-true (k + 1) n e)
      go false e =
          let z : n ≡ k + 1 = omega (arith, ltb-false (k + 1) n e) in
          sym (offset_end c) ∙ ap (offset_of c) z

  pub item_read : (k : ℕ) → k < n → item b k ≡ item_bytes c k
  unfolding item
  item_read k h =
      rw (offset_read k h, end_read k h)
      (part_at b (item_bytes c k) _ (offset_of c k) (offset_of c (k + 1)) (item_at k h) (sym (offset_next c k)))

  -- ---- it is right
  rises_right : (k : ℕ) → k < n → rises b k ≡ true
  unfolding rises
  rises_right zero h = refl
  rises_right (suc k) h =
      let lt : k < n = omega arith in
      let o = offset_read (suc k) h in
      let e : offset_of c (suc k) ≡ offset_of c k + length (item_bytes c k) = rw add-one at (offset_next c k) in
      lt-ltb (offset b k) (offset b (suc k)) (omega (arith, offset_read k lt, filled k lt))

  offset_right_lem : (k : ℕ) → k < n → offset_right b k ≡ true
  unfolding offset_right
  offset_right_lem k h =
      let o = offset_read k h in
      let last : offset_of c (k + 1) ≤ length b = omega (arith, offset_rises c (k + 1) n (omega arith), offset_end c) in
      let low : list_end b ≤ offset b k = omega (arith, offset_low c k, items_read) in
      let high : offset b k < length b = omega (arith, offset_next c k, filled k h) in
      rw (le-leb (list_end b) (offset b k) low, lt-ltb (offset b k) (length b) high, rises_right k h)

  pub body_right_lem : body_right b ≡ true
  unfolding body_right
  body_right_lem =
      let each = all_each (offset_right b) (items b) (λ k h. offset_right_lem k (rw items_read at h)) in
      let long : 8 ≤ length b = omega (arith, body_length c) in
      let few : items b ≤ 64 = omega (arith, items_read, good.few) in
      rw (le-leb 8 (length b) long, eq-eqb (body_version b) 1 body_version_read, le-leb (items b) 64 few, each)
