-- C36: a capsule with tables of what is shown of it has all parts inside, and is the same as what is shown. s is its
-- bytes. Assumes nothing.
use mathlib.Core.Path.{◌≡◌, refl, ap, ◌∙◌}
use mathlib.Core.Bool.{Bool, true, false, cond}
use mathlib.Core.List.{List}
use Prim.Native.Nat.{ℕ, ◌+◌, ◌*◌, ◌^◌, ◌<◌}
use native.Mathlib.Omega.{arith}
use borrow.Author.Tests.{le-leb}
use lib.Dec.{eqb}
use lib.ListN.{length, drop}
use Rattle.fields.specs.Number.{Bytes, le}
use Rattle.fields.specs.Guid.{guid}
use Rattle.fields.specs.Part.{Range, Lies}
use Rattle.fields.specs.Joined.{joined}
use Rattle.fields.proofs.Guid.{guid_whole}
use Rattle.fields.proofs.Bytes.{take_bytes, drop_bytes, le_small}
use Rattle.fields.proofs.Joined.{joined_bytes}
use Rattle.capsule_header.specs.Header.{flags, body}
use Rattle.capsule_body.specs.Body.{drivers, item}
use Rattle.capsule_payloads.specs.Payload.{version, type_guid, image_index, hardware_instance, payload_right}
use Rattle.capsule_payloads.proofs.Payload.{first_header}
use Rattle.capsule_check.specs.Item.{located}
use Rattle.capsule_items.specs.Items.{item_part}
use Rattle.capsule_parts.specs.Parts.{image_part, vendor_code_part}
use Rattle.capsule_parts.proofs.Parts.{parts_lie}
use Rattle.capsule_counts.specs.Count.{driver_count, payload_count}
use Rattle.capsule_contents.specs.Lent.{contents_of, bytes_of, drivers_in, payloads_in, range_at}
use Rattle.capsule_contents.specs.Lent.{driver_at, payload_at, image_at, vendor_code_at}
use Rattle.capsule_packing_rules.specs.Rules.{inside, driver_inside, payload_inside, parts_inside}
use Rattle.proof_packing.specs.RoundTrip.{Taken, shown_payload, shown_contents, Same, told_part, shown_entry, lent_again, Typed}
use Rattle.capsule_body.proofs.Body.{all_each}
use Rattle.proof_packing.proofs.PayloadAgain.{payload_in}
use Rattle.proof_packing.proofs.Shown.{item_bytes_lem, length_low, payloads_shown, right_shown, payload_shown}
use Rattle.proof_packing.proofs.Told.{entries_told, entry_told, told_long, told_small, Tells, told_read, Fits}
use Rattle.proof_packing.proofs.Told.{PayloadReads, entry_long, entry_small, entry_read}

-- the values of a payload's item fit
item_fits : (p : List ℕ) → Bytes p → payload_right p ≡ true → Fits (payload_in p)
unfolding version type_guid image_index hardware_instance guid
item_fits p small right =
    record {
      version = le_small 4 p 0 small;
      guid_long = guid_whole p 4 (omega (arith, first_header p right));
      guid_small = take_bytes 16 (drop 4 p) (drop_bytes 4 p small);
      index = small 20;
      instance = go (eqb (le 4 p 0) 1);
    }
  where
    go : (t : Bool) → cond t 0 (le 8 p 32) < 2 ^ 64
    go true = omega arith
    go false = le_small 8 p 32 small

module _ (s : List ℕ) (small : Bytes s) (taken : Taken s) where
  -- a part of the capsule
  tells : (r : Range) → Lies s r → Tells r
  tells r lies = record { ordered = lies.ordered; low = omega (arith, lies.inside, length_low s taken small) }

  lies_inside : (r q : Range) → r ≡ q → Lies s q → inside s r ≡ true
  lies_inside r q e lies = ap (λ (x : Range). inside s x) e ∙ le-leb q.end (length s) lies.inside

  -- ---- the drivers
  abbrev driver_part : ℕ → Range
  driver_part k = item_part (located s k)

  abbrev driver_table : List ℕ
  driver_table = joined (driver_count s) (λ k. told_part (driver_part k))

  drivers_told : drivers_in driver_table ≡ driver_count s
  drivers_told = entries_told 16 (driver_count s) (λ k. told_part (driver_part k)) (λ k lt. told_long (driver_part k)) (omega arith)

  driver_told : (k : ℕ) → k < drivers_in driver_table → range_at driver_table (driver_at k) ≡ driver_part k
  driver_told k lt =
      told_read driver_table (driver_at k) (driver_part k) (drop (16 * k + 16) driver_table) (tells (driver_part k) (parts_lie s k).item)
      (entry_told 16 (driver_count s) (λ i. told_part (driver_part i)) (λ i l. told_long (driver_part i)) k (rw drivers_told at lt))

  -- ---- the payloads
  abbrev number_of : ℕ → ℕ
  number_of j = driver_count s + j

  abbrev image : ℕ → Range
  image j = image_part s (located s (number_of j))

  abbrev code : ℕ → Range
  code j = vendor_code_part s (located s (number_of j))

  abbrev payload_table : List ℕ
  payload_table = joined (payload_count s) (shown_entry s)

  shown_fits : (j : ℕ) → j < payload_count s → Fits (shown_payload s j)
  shown_fits j lt =
      let k = drivers (body s) + j in
      let in_Body = rw (payloads_shown s taken) at lt in
      rw (payload_shown s taken j in_Body) (item_fits (item (body s) k) (item_bytes_lem s k small) (right_shown s taken j in_Body))

  wide : (j : ℕ) → j < payload_count s → length (shown_entry s j) ≡ 64
  wide j lt = entry_long (shown_payload s j) (image j) (code j) (shown_fits j lt)

  payloads_told : payloads_in payload_table ≡ payload_count s
  payloads_told = entries_told 64 (payload_count s) (shown_entry s) wide (omega arith)

  module _ (j : ℕ) (lt : j < payloads_in payload_table) where
    in_count : j < payload_count s
    in_count = rw payloads_told at lt

    payload_told : PayloadReads payload_table (payload_at j) (shown_payload s j) (image j) (code j)
    payload_told =
        entry_read (shown_payload s j) (image j) (code j) (shown_fits j in_count) payload_table (payload_at j)
        (drop (64 * j + 64) payload_table)
        (entry_told 64 (payload_count s) (shown_entry s) wide j in_count)
        (tells (image j) (parts_lie s (number_of j)).image)
        (tells (code j) (parts_lie s (number_of j)).vendor_code)

    payload_same : (contents_of (lent_again s)).payload j ≡ shown_payload s j
    payload_same =
        let r = payload_told in
        λ i.
        record {
          version = r.version i;
          type_guid = r.type_guid i;
          image_index = r.image_index i;
          hardware_instance = r.hardware_instance i;
          image = bytes_of s (r.image i);
          vendor_code = bytes_of s (r.code i);
        }

    payload_inside_lem : payload_inside s s payload_table j ≡ true
    payload_inside_lem =
        let lie = parts_lie s (number_of j) in
        rw (
          lies_inside (range_at payload_table (image_at j)) (image j) payload_told.image lie.image,
          lies_inside (range_at payload_table (vendor_code_at j)) (code j) payload_told.code lie.vendor_code,
        )

  -- ---- the whole
  again_inside : parts_inside (lent_again s) ≡ true
  again_inside =
      let own : (k : ℕ) → k < drivers_in driver_table → driver_inside s driver_table k ≡ true =
      λ k lt. lies_inside (range_at driver_table (driver_at k)) (driver_part k) (driver_told k lt) (parts_lie s k).item in
      rw (
        all_each (driver_inside s driver_table) (drivers_in driver_table) own,
        all_each (payload_inside s s payload_table) (payloads_in payload_table) payload_inside_lem,
      )

  again_same : Same (contents_of (lent_again s)) (shown_contents s)
  again_same =
      record {
        flags = refl;
        drivers = drivers_told;
        payloads = payloads_told;
        driver = λ k lt. ap (λ (r : Range). bytes_of s r) (driver_told k lt);
        payload = payload_same;
      }

  again_typed : Typed (lent_again s)
  unfolding flags
  again_typed =
      record {
        flags = le_small 4 s 20 small;
        driver_table = joined_bytes (driver_count s) (λ k. told_part (driver_part k)) (λ k lt. told_small (driver_part k));
        payload_table =
            joined_bytes (payload_count s) (shown_entry s) (λ j lt.
            entry_small (shown_payload s j) (image j) (code j) (shown_fits j lt));
      }

pub read_again : (s : List ℕ) → Bytes s → Taken s
    → (parts_inside (lent_again s) ≡ true) × Same (contents_of (lent_again s)) (shown_contents s) × Typed (lent_again s)
read_again s small taken = (again_inside s small taken, again_same s small taken, again_typed s small taken)
