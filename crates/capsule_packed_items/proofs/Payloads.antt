-- One payload of a table whose parts lie in their slices: its sizes, and its bytes put part by part. Assumes nothing.
use mathlib.Core.Path.{◌≡◌, refl, sym, ◌∙◌}
use mathlib.Core.Bool.{true}
use mathlib.Core.List.{List, [], ◌∷◌, ◌++◌}
use Prim.Native.Nat.{ℕ, ◌+◌, ◌≤◌, ◌<◌}
use native.Mathlib.Omega.{arith}
use borrow.Author.Tests.{eq-eqb, ne_eqb}
use lib.ListN.{length, length-append}
use Rattle.fields.specs.Number.{bytes, put, words_bytes}
use Rattle.fields.proofs.Guid.{guid_whole}
use Rattle.fields.proofs.Tests.{both}
use Rattle.capsule_payloads.specs.Payload.{header_length}
use Rattle.capsule_payloads.proofs.Payload.{header_ends}
use Rattle.capsule_contents.specs.Contents.{payload_header_bytes, payload_bytes}
use Rattle.capsule_contents.specs.Lent.{Lent, contents_of, range_at, length_at, image_at, vendor_code_at, payload_at, payloads_in}
use Rattle.capsule_contents.specs.Lent.{version_given, type_guid_given, image_index_given, instance_given, bytes_of}
use Rattle.capsule_contents.specs.Sizes.{payload_size}
use Rattle.capsule_contents.proofs.Lengths.{payload_header_length}
use Rattle.capsule_packing_rules.specs.Rules.{inside}
use Rattle.capsule_packing_rules.proofs.Sizes.{told_length}
use Rattle.capsule_packed_items.specs.Step.{PayloadReady}
use Rattle.capsule_packed_items.proofs.Puts.{put_next, head_of, head_put, head_whole, head_more}

module _ (table : List ℕ) (j : ℕ) where
  pub size_is : payload_size table j
      ≡ header_length (version_given table j) + length_at table (image_at j) + length_at table (vendor_code_at j)
  unfolding payload_size
  size_is = refl

  pub size_least : 32 + length_at table (image_at j) + length_at table (vendor_code_at j) ≤ payload_size table j
  size_least = omega (arith, size_is, header_ends (version_given table j))

  -- with a hardware instance
  pub size_more : (version_given table j ≡ 1 → ⊥) → 40 ≤ payload_size table j
  unfolding header_length
  size_more ne = omega (arith, rw (ne_eqb (version_given table j) 1 ne) at size_is)

  pub guid_long : j < payloads_in table → length (type_guid_given table j) ≡ 16
  guid_long h = guid_whole table (payload_at j + 4) (omega arith)

-- payload j, which is to stand at `at` in s
module _ (x : Lent) (j at : ℕ) (s : List ℕ) (ok : PayloadReady x j at (length s)) where
  parts : (inside x.image_slice (range_at x.payload_table (image_at j)) ≡ true)
      × (inside x.vendor_code_slice (range_at x.payload_table (vendor_code_at j)) ≡ true)
  parts =
      both (inside x.image_slice (range_at x.payload_table (image_at j)))
      (inside x.vendor_code_slice (range_at x.payload_table (vendor_code_at j))) ok.parts

  pub image_within : inside x.image_slice (range_at x.payload_table (image_at j)) ≡ true
  image_within = parts.0

  pub code_within : inside x.vendor_code_slice (range_at x.payload_table (vendor_code_at j)) ≡ true
  code_within = parts.1

  image_long : length (bytes_of x.image_slice (range_at x.payload_table (image_at j))) ≡ length_at x.payload_table (image_at j)
  image_long = told_length x.image_slice x.payload_table (image_at j) parts.0

  code_long : length (bytes_of x.vendor_code_slice (range_at x.payload_table (vendor_code_at j)))
      ≡ length_at x.payload_table (vendor_code_at j)
  code_long = told_length x.vendor_code_slice x.payload_table (vendor_code_at j) parts.1

  -- the version, the type GUID and three words are put; then that is the header in version 1, and else the instance comes behind
  module _ {a b c : List ℕ} (index image code : ℕ) (q : a ≡ put s at (bytes 4 (version_given x.payload_table j)))
      (r : b ≡ put a (at + 4) (type_guid_given x.payload_table j))
      (t : c ≡ put b (at + 20) (words_bytes (index ∷ image ∷ code ∷ [])))
      (ei : index ≡ image_index_given x.payload_table j) (low : index < 256)
      (em : image ≡ length_at x.payload_table (image_at j)) (ec : code ≡ length_at x.payload_table (vendor_code_at j)) where
    begun : c ≡ put s at (head_of ((contents_of x).payload j))
    begun =
        head_put ((contents_of x).payload j) (guid_long x.payload_table j ok.named) s at
        (omega (arith, ok.fits, size_least x.payload_table j)) q r (rw (image_long, code_long, ← ei, ← em, ← ec) t)

    pub header_whole : version_given x.payload_table j ≡ 1 → c ≡ put s at (payload_header_bytes ((contents_of x).payload j))
    header_whole one =
        head_whole ((contents_of x).payload j) (guid_long x.payload_table j ok.named) (rw ei at low) s at
        (eq-eqb (version_given x.payload_table j) 1 one) begun

    pub header_more : {d : List ℕ} → (version_given x.payload_table j ≡ 1 → ⊥)
        → d ≡ put c (at + 32) (bytes 8 (instance_given x.payload_table j)) → d ≡ put s at (payload_header_bytes ((contents_of x).payload j))
    header_more other u =
        head_more ((contents_of x).payload j) (guid_long x.payload_table j ok.named) (rw ei at low) s at
        (ne_eqb (version_given x.payload_table j) 1 other) (omega (arith, ok.fits, size_more x.payload_table j other)) begun u

  -- the header of n bytes, the image of m behind it, the vendor code behind both
  module _ (n m : ℕ) (en : n ≡ header_length (version_given x.payload_table j)) (em : m ≡ length_at x.payload_table (image_at j)) where
    pub payload_fits : at + n + m + length_at x.payload_table (vendor_code_at j) ≤ length s
    payload_fits = omega (arith, en, em, ok.fits, size_is x.payload_table j)

    pub payload_put : {a b c : List ℕ} → a ≡ put s at (payload_header_bytes ((contents_of x).payload j))
        → b ≡ put a (at + n) (bytes_of x.image_slice (range_at x.payload_table (image_at j)))
        → c ≡ put b (at + n + m) (bytes_of x.vendor_code_slice (range_at x.payload_table (vendor_code_at j)))
        → c ≡ put s at (payload_bytes ((contents_of x).payload j))
    unfolding payload_bytes
    payload_put {a} {b} {c} p q r =
        let given = (contents_of x).payload j in
        let header = payload_header_bytes given in
        let image = bytes_of x.image_slice (range_at x.payload_table (image_at j)) in
        let code = bytes_of x.vendor_code_slice (range_at x.payload_table (vendor_code_at j)) in
        let lh : length header ≡ n = payload_header_length given (guid_long x.payload_table j ok.named) ∙ sym en in
        let both = length-append header image in
        let room = payload_fits in
        let one = put_next s at (at + n) header image (omega arith) (omega (arith, image_long)) p q in
        put_next s at (at + n + m) (header ++ image) code (omega (arith, image_long)) (omega (arith, code_long)) one r
