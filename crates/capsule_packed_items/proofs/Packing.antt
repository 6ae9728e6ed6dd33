-- What the packer's tests have shown of all items: their sizes, and that there is room. Then the capsule as it is put:
-- front, offsets, items. Assumes nothing.
use mathlib.Core.Path.{◌≡◌, refl, sym, ap, ◌∙◌}
use mathlib.Core.List.{List, ◌++◌, append_assoc}
use Prim.Native.Nat.{ℕ, zero, suc, ◌+◌, ◌*◌, ◌≤◌, ◌<◌}
use native.Mathlib.Omega.{arith}
use lib.ListN.{length, length-append}
use Rattle.fields.specs.Number.{bytes, put}
use Rattle.fields.specs.Joined.{joined}
use Rattle.fields.proofs.Number.{length_bytes}
use Rattle.capsule_contents.specs.Contents.{items_of, item_bytes, offset_of, header_bytes, body_bytes, capsule_bytes}
use Rattle.capsule_contents.specs.Lent.{Lent, contents_of, drivers_in, payloads_in}
use Rattle.capsule_contents.specs.Sizes.{size_cap, item_size, sum}
use Rattle.capsule_contents.proofs.Caps.{sum_each, sum_grows}
use Rattle.capsule_contents.proofs.Lengths.{joined_sum, header_length_lem, capsule_length}
use Rattle.capsule_packing_rules.specs.Rules.{capsule_size}
use Rattle.capsule_packing_rules.proofs.Sizes.{item_length, packed_size_is}
use Rattle.capsule_packed_items.specs.Step.{Packable, front_bytes, offsets_bytes}
use Rattle.capsule_packed_items.proofs.Offsets.{offset_bytes, offsets_long}
use Rattle.capsule_packed_items.proofs.Puts.{put_next}

-- the size of each item
abbrev pub size_in : Lent → ℕ → ℕ
size_in x = item_size x.driver_table x.payload_table

joined_same : (n : ℕ) (g h : ℕ → List ℕ) → ((k : ℕ) → k < n → g k ≡ h k) → joined n g ≡ joined n h
unfolding joined
joined_same zero g h e = refl
joined_same (suc n) g h e = rw (joined_same n g h (λ k lt. e k (omega arith)), e n (omega arith))

regroup : (a b c d e f : List ℕ) → a ++ (b ++ c ++ d ++ e ++ f) ≡ (a ++ b ++ c ++ d) ++ e ++ f
regroup a b c d e f = simp append_assoc

-- what stands before the offsets, and they
abbrev pub front_of : Lent → List ℕ
front_of x = front_bytes x.flags (capsule_size x) (drivers_in x.driver_table) (payloads_in x.payload_table)

front_long : (flags size drivers payloads : ℕ) → length (front_bytes flags size drivers payloads) ≡ 36
unfolding front_bytes
front_long flags size drivers payloads =
    let l = header_length_lem flags size in
    let v = length_bytes 4 1 in
    let d = length_bytes 2 drivers in
    let p = length_bytes 2 payloads in
    simp (length-append, l, v, d, p)

list_long : (drivers payloads : List ℕ) (n : ℕ) → length (offsets_bytes drivers payloads n) ≡ 8 * n
unfolding offsets_bytes
list_long drivers payloads n = offsets_long drivers payloads n n

-- n items
module _ (x : Lent) (n room : ℕ) (all : n ≡ items_of (contents_of x)) (ok : Packable x room) where
  pub whole_size : capsule_size x ≡ 36 + 8 * n + sum n (size_in x)
  whole_size = rw all (packed_size_is x ok.parts)

  pub list_fits : 36 + 8 * n ≤ room
  list_fits = omega (arith, whole_size, ok.fits)

  pub sum_low : sum n (size_in x) < size_cap
  sum_low = omega (arith, whole_size, ok.small)

  pub item_long : (k : ℕ) → k < n → length (item_bytes (contents_of x) k) ≡ size_in x k
  item_long k h = item_length x ok.parts k (omega arith)

  pub item_small : (k : ℕ) → k < n → size_in x k < size_cap
  item_small k h = omega (arith, sum_low, sum_each n k (size_in x) h)

  pub item_fits : (k : ℕ) → k < n → 36 + 8 * n + sum k (size_in x) + size_in x k ≤ room
  item_fits k h = omega (arith, whole_size, ok.fits, sum_each n k (size_in x) h)

  pub items_long : (k : ℕ) → k ≤ n → length (joined k (item_bytes (contents_of x))) ≡ sum k (size_in x)
  items_long k h = joined_sum k (item_bytes (contents_of x)) (size_in x) (λ j lt. item_long j (omega arith))

  pub items_fit : (k : ℕ) → k ≤ n → 36 + 8 * n + length (joined k (item_bytes (contents_of x))) ≤ room
  items_fit k h = omega (arith, items_long k h, whole_size, ok.fits, sum_grows n k (size_in x) h)

  -- the list of offsets, by the items' bytes and by their sizes
  offsets_are : joined n (λ k. bytes 8 (offset_of (contents_of x) k)) ≡ offsets_bytes x.driver_table x.payload_table n
  unfolding offsets_bytes offset_of
  offsets_are =
      joined_same n (λ k. bytes 8 (offset_of (contents_of x) k)) (offset_bytes x.driver_table x.payload_table n) (λ k h.
      rw (items_long k (omega arith), ← all))

  body_is : body_bytes (contents_of x) ≡ bytes 4 1 ++ bytes 2 (drivers_in x.driver_table) ++ bytes 2 (payloads_in x.payload_table)
      ++ offsets_bytes x.driver_table x.payload_table n ++ joined n (item_bytes (contents_of x))
  unfolding body_bytes
  body_is = rw (← all, offsets_are)

  capsule_is : front_of x ++ offsets_bytes x.driver_table x.payload_table n ++ joined n (item_bytes (contents_of x))
      ≡ capsule_bytes (contents_of x)
  unfolding capsule_bytes front_bytes
  capsule_is =
      let c = contents_of x in
      let header = header_bytes x.flags (capsule_size x) in
      sym
      (ap (λ (k : ℕ). header_bytes x.flags k ++ body_bytes c) (sym (capsule_length c))
      ∙ ap (λ (l : List ℕ). header ++ l) body_is
      ∙ regroup header (bytes 4 1) (bytes 2 (drivers_in x.driver_table)) (bytes 2 (payloads_in x.payload_table))
      (offsets_bytes x.driver_table x.payload_table n) (joined n (item_bytes c)))

  -- three stores put the capsule
  pub capsule_put : (s : List ℕ) {a b c : List ℕ} → length s ≡ room → a ≡ put s 0 (front_of x)
      → b ≡ put a 36 (offsets_bytes x.driver_table x.payload_table n) → c ≡ put b (36 + 8 * n) (joined n (item_bytes (contents_of x)))
      → c ≡ put s 0 (capsule_bytes (contents_of x))
  capsule_put s {a} {b} {c} r p q t =
      let offsets = offsets_bytes x.driver_table x.payload_table n in
      let items = joined n (item_bytes (contents_of x)) in
      let lf = front_long x.flags (capsule_size x) (drivers_in x.driver_table) (payloads_in x.payload_table) in
      let lo : length offsets ≡ 8 * n = list_long x.driver_table x.payload_table n in
      let lb = length-append (front_of x) offsets in
      let fits : 36 + 8 * n + length items ≤ room = items_fit n (omega arith) in
      let one = put_next s 0 36 (front_of x) offsets (omega arith) (omega arith) p q in
      put_next s 0 (36 + 8 * n) (front_of x ++ offsets) items (omega arith) (omega arith) one t
      ∙ ap (λ (l : List ℕ). put s 0 l) capsule_is
