-- The definition of an item's place, at each way out, and what it says of the capsule. Assumes nothing.
use mathlib.Core.Path.{◌≡◌, refl, sym}
use mathlib.Core.Bool.{Bool, true, false}
use mathlib.Core.List.{List}
use Prim.Native.Nat.{ℕ, ◌+◌, ◌-◌, ◌<◌, ◌≤◌}
use native.Mathlib.Omega.{arith}
use borrow.Author.Tests.{ltb-true, ltb-false, lt-ltb, le-ltb}
use lib.Dec.{ltb}
use lib.ListN.{length, drop}
use lib.Seq.{drop-drop}
use Rattle.refusals.specs.declared.Refusal.{Refusal}
use Rattle.refusals.specs.declared.Refusal.TheVariants.{NoItem}
use Rattle.fields.specs.Number.{le}
use Rattle.capsule_header.specs.Header.{header_size, sizes_right, body}
use Rattle.capsule_payloads.specs.Payload.{payload_right}
use Rattle.fields.specs.Part.{part}
use Rattle.capsule_body.specs.Body.{drivers, payloads, items, offset, item_end, body_right}
use Rattle.capsule_payloads.specs.Payload.{payload_at_right, payloads_right}
use Rattle.capsule_body.specs.Body.{item as item_bytes}
use Rattle.capsule_header.proofs.Header.{header_in, body_length}
use Rattle.capsule_body.proofs.Body.{all_at, counts_fit, item_in}
use Rattle.capsule_check.specs.Verdict.{verdict_of, unless, after, verdict, item_verdict}
use Rattle.capsule_check.specs.Item.{item_start_in, item_end_in, item_of, found, located}
use Rattle.std.specs.Prelude.{Result, Ok, Err}
use Rattle.refusal_order.specs.Decide.{Verdict}
use Rattle.capsule_check.specs.declared.Item.{Item}
use Rattle.capsule_check.specs.declared.Item.TheVariants.{Driver, Payload}
use Rattle.capsule_check.proofs.PassedCheck.{faultless, Sound}

module _ (s : List ℕ) (k : ℕ) where
  pub located_refused : (r : Refusal) → verdict s ≡ Err r → located s k ≡ Err r
  unfolding located item_verdict
  located_refused r e = rw e

  pub located_none : verdict s ≡ Ok tt → items (body s) ≤ k → located s k ≡ Err NoItem
  unfolding located item_verdict
  located_none e h = rw (e, le-ltb k (items (body s)) h)

  pub located_driver : verdict s ≡ Ok tt → k < items (body s) → k < drivers (body s)
      → located s k ≡ Ok (Driver (item_start_in s k) (item_end_in s k))
  unfolding located item_verdict
  located_driver e h d = rw (e, lt-ltb k (items (body s)) h, lt-ltb k (drivers (body s)) d)

  pub located_payload : verdict s ≡ Ok tt → k < items (body s) → drivers (body s) ≤ k
      → located s k ≡ Ok (Payload (item_start_in s k) (item_end_in s k))
  unfolding located item_verdict
  located_payload e h d = rw (e, lt-ltb k (items (body s)) h, le-ltb k (drivers (body s)) d)

-- where an item of a faultless capsule lies
pub record Inside (s : List ℕ) (a e : ℕ) : Type 0 where
  pub some : a < e
  pub within : e ≤ length s

module _ (s : List ℕ) (k : ℕ) (sound : Sound s) (lt : k < items (body s)) where
  pub item_inside : Inside s (item_start_in s k) (item_end_in s k)
  unfolding item_start_in item_end_in
  item_inside =
      let i = item_in (body s) sound.offsets k lt in
      record { some = omega arith; within = omega (arith, body_length s sound.sizes) }

  -- its bytes are the item's
  pub item_is : part s (item_start_in s k) (item_end_in s k) ≡ item_bytes (body s) k
  unfolding item_start_in item_end_in item_bytes body
  item_is =
      let h = header_size s in
      let b = drop h s in
      let n : h + item_end b k - (h + offset b k) ≡ item_end b k - offset b k = omega arith in
      rw (n, drop-drop (offset b k) h s)

-- ---- the definition, turned round: what an answer says of the capsule
pub told_judged : (s : List ℕ) (k : ℕ) → verdict_of (located s k) ≡ item_verdict s k
unfolding located
told_judged s k = go (item_verdict s k) (ltb k (drivers (body s)))
  where
    go : (v : Verdict) (d : Bool) → verdict_of (found v (item_of d (item_start_in s k) (item_end_in s k))) ≡ v
    go (Ok x) true = refl
    go (Ok x) false = refl
    go (Err r) d = refl

-- the verdict of an answer in hand
module _ (s : List ℕ) (k : ℕ) where
  pub judged_found : (i : Item) → located s k ≡ Ok i → item_verdict s k ≡ Ok tt
  judged_found i e = rw e at (sym (told_judged s k))

  pub judged_refused : (r : Refusal) → located s k ≡ Err r → item_verdict s k ≡ Err r
  judged_refused r e = rw e at (sym (told_judged s k))

pub ruleset judged = (judged_found, judged_refused)

pub refused_located : (s : List ℕ) (k : ℕ) (r : Refusal) → item_verdict s k ≡ Err r → located s k ≡ Err r
unfolding located
refused_located s k r e = rw e

-- what holds of an item that was found: it lies in the capsule, and a payload is right
unfoldable pub Holds : List ℕ → Result Item Refusal → Type 0
Holds s (Ok (Driver a e)) = Inside s a e
Holds s (Ok (Payload a e)) = Inside s a e × (payload_right (part s a e) ≡ true)
Holds s (Err r) = Unit

payload_right_lem : (s : List ℕ) (k : ℕ) → Sound s → k < items (body s) → drivers (body s) ≤ k
    → payload_right (part s (item_start_in s k) (item_end_in s k)) ≡ true
unfolding payloads_right payload_at_right
payload_right_lem s k sound lt low =
    let b = body s in
    let j = k - drivers b in
    let e : drivers b + j ≡ k = omega arith in
    rw (item_is s k sound lt) (rw e at (all_at (payload_at_right b) (payloads b) j sound.payloads (omega arith)))

pub holds : (s : List ℕ) (k : ℕ) → Holds s (located s k)
unfolding located item_verdict Holds
holds s k = go (verdict s) refl
  where
    kinds : Sound s → k < items (body s) → (d : Bool) → ltb k (drivers (body s)) ≡ d
        → Holds s (Ok (item_of d (item_start_in s k) (item_end_in s k)))
    kinds sound lt true q = item_inside s k sound lt
    kinds sound lt false q =
        let low = ltb-false k (drivers (body s)) q in
        (item_inside s k sound lt, payload_right_lem s k sound lt low)

    numbers : Sound s → (t : Bool) → ltb k (items (body s)) ≡ t
        → Holds s (found (unless t NoItem (Ok tt)) (item_of (ltb k (drivers (body s))) (item_start_in s k) (item_end_in s k)))
    numbers sound true q = kinds sound (ltb-true k (items (body s)) q) (ltb k (drivers (body s))) refl
    numbers sound false q = tt

    go : (v : Verdict) → verdict s ≡ v
        → Holds s
        (found (after v (unless (ltb k (items (body s))) NoItem (Ok tt)))
        (item_of (ltb k (drivers (body s))) (item_start_in s k) (item_end_in s k)))
    go (Ok x) e = numbers (faultless s e) (ltb k (items (body s))) refl
    go (Err r) e = tt

-- a payload in hand
module _ (s : List ℕ) (k a e : ℕ) (found : located s k ≡ Ok (Payload a e)) where
  held : Holds s (Ok (Payload a e))
  held = rw found at (holds s k)

  pub payload_some : a < e
  unfolding Holds
  payload_some = held.0.some

  pub payload_within : e ≤ length s
  unfolding Holds
  payload_within = held.0.within

  pub payload_held : payload_right (part s a e) ≡ true
  unfolding Holds
  payload_held = held.1

pub ruleset payload = (payload_some, payload_within, payload_held)

-- ---- what `locate` asks of a faultless capsule, and gives
module _ (s : List ℕ) (e : verdict s ≡ Ok tt) where
  pub header_read : 28 ≤ length s
  header_read = let h = header_in s (faultless s e).sizes in omega (arith, h.0, h.1)

  pub sizes_known : sizes_right s ≡ true
  sizes_known = (faultless s e).sizes

  pub offsets_known : body_right (body s) ≡ true
  offsets_known = (faultless s e).offsets

  pub counts_read : 8 ≤ length (body s)
  counts_read = counts_fit (body s) offsets_known

  module _ (k : ℕ) (lt : k < items (body s)) where
    pub start_in : le 4 s 16 + offset (body s) k < length s
    unfolding item_start_in header_size
    start_in = let i = item_inside s k (faultless s e) lt in omega (arith, i.some, i.within)

    pub end_in : le 4 s 16 + item_end (body s) k ≤ length s
    unfolding item_end_in header_size
    end_in = (item_inside s k (faultless s e) lt).within

    pub driver_in : k < drivers (body s) → located s k ≡ Ok (Driver (le 4 s 16 + offset (body s) k) (le 4 s 16 + item_end (body s) k))
    unfolding item_start_in item_end_in header_size
    driver_in d = located_driver s k e lt d

    pub payload_in : drivers (body s) ≤ k → located s k ≡ Ok (Payload (le 4 s 16 + offset (body s) k) (le 4 s 16 + item_end (body s) k))
    unfolding item_start_in item_end_in header_size
    payload_in d = located_payload s k e lt d

-- what the header and the counts ask
pub ruleset fit = (header_read, sizes_known, offsets_known, counts_read)

pub ruleset picks = (fit, located_refused, located_none, start_in, end_in, driver_in, payload_in)
