-- Stores one behind another, and the parts of a capsule that they put. Assumes nothing.
use mathlib.Core.Path.{◌≡◌, sym, ap, ◌∙◌}
use mathlib.Core.Bool.{true, false}
use mathlib.Core.List.{List, [], ◌∷◌, ◌++◌, append_assoc, append-nil}
use Prim.Native.Nat.{ℕ, ◌+◌, ◌%◌, ◌/◌, ◌≤◌, ◌<◌}
use native.Mathlib.Numerals.{add-one}
use native.Mathlib.Omega.{arith}
use lib.Dec.{eqb}
use lib.ListN.{length, length-append}
use Rattle.fields.specs.Number.{bytes, put, words_bytes}
use Rattle.fields.specs.Joined.{joined}
use Rattle.fields.proofs.Number.{length_bytes}
use Rattle.fields.proofs.Put.{put_more}
use Rattle.fields.proofs.Words.{length_words, put_none}
use Rattle.capsule_header.specs.Header.{fmp_guid}
use Rattle.capsule_contents.specs.Contents.{PayloadContents, payload_header_bytes, header_bytes}
use Rattle.capsule_packed_items.specs.Step.{front_bytes}

-- what is put, and one store right behind it
pub put_next : (s : List ℕ) (i j : ℕ) (xs ys : List ℕ) {one two : List ℕ} → i + length xs ≡ j → j + length ys ≤ length s
    → one ≡ put s i xs → two ≡ put one j ys → two ≡ put s i (xs ++ ys)
put_next s i j xs ys {one} {two} at h p q =
    q
    ∙ ap (λ (l : List ℕ). put l j ys) p
    ∙ ap (λ (n : ℕ). put (put s i xs) n ys) (sym at)
    ∙ put_more s i xs ys (omega arith)

-- lists one behind another from i on: none, and one more behind n bytes
module _ (s : List ℕ) (i : ℕ) (g : ℕ → List ℕ) where
  pub joined_none : s ≡ put s i (joined 0 g)
  unfolding joined
  joined_none = put_none s i

  pub joined_next : (k n : ℕ) {one two : List ℕ} → length (joined k g) ≡ n → i + n + length (g k) ≤ length s
      → one ≡ put s i (joined k g) → two ≡ put one (i + n) (g k) → two ≡ put s i (joined (k + 1) g)
  unfolding joined
  joined_next k n {one} {two} l h p q = rw add-one (put_next s i (i + n) (joined k g) (g k) (omega arith) h p q)

-- the GUID, four words, and two halves: the front
pub front_put : (s : List ℕ) (flags size drivers payloads : ℕ) {a b c d : List ℕ} → 36 ≤ length s → a ≡ put s 0 fmp_guid
    → b ≡ put a 16 (words_bytes (28 ∷ flags ∷ size ∷ 1 ∷ [])) → c ≡ put b 32 (bytes 2 drivers) → d ≡ put c 34 (bytes 2 payloads)
    → d ≡ put s 0 (front_bytes flags size drivers payloads)
unfolding front_bytes header_bytes words_bytes
front_put s flags size drivers payloads {a} {b} {c} {d} h p q r t =
    let words = words_bytes (28 ∷ flags ∷ size ∷ 1 ∷ []) in
    let lw : length words ≡ 16 = length_words (28 ∷ flags ∷ size ∷ 1 ∷ []) in
    let ld = length_bytes 2 drivers in
    let lp = length_bytes 2 payloads in
    let l1 : length (fmp_guid ++ words) ≡ 32 = length-append fmp_guid words ∙ omega arith in
    let l2 : length (fmp_guid ++ words ++ bytes 2 drivers) ≡ 34 = length-append (fmp_guid ++ words) (bytes 2 drivers) ∙ omega arith in
    let one = put_next s 0 16 fmp_guid words (omega arith) (omega arith) p q in
    let two = put_next s 0 32 (fmp_guid ++ words) (bytes 2 drivers) (omega arith) (omega arith) one r in
    let three = put_next s 0 34 (fmp_guid ++ words ++ bytes 2 drivers) (bytes 2 payloads) (omega arith) (omega arith) two t in
    three ∙ simp (append_assoc, append-nil)

-- an index of one byte, and the three reserved bytes behind it, are a word
pub word_byte : (v : ℕ) → v < 256 → bytes 4 v ≡ v ∷ 0 ∷ 0 ∷ 0 ∷ []
unfolding bytes
word_byte v h =
    let m : v % 256 ≡ v = omega arith in
    let z : v / 256 ≡ 0 = omega arith in
    rw (m, z)

-- a payload's header but for the hardware instance: the version, the type GUID, three words
abbrev pub three_of : PayloadContents → List ℕ
three_of p = p.image_index ∷ length p.image ∷ length p.vendor_code ∷ []

abbrev pub head_of : PayloadContents → List ℕ
head_of p = bytes 4 p.version ++ p.type_guid ++ words_bytes (three_of p)

module _ (p : PayloadContents) (long : length p.type_guid ≡ 16) where
  head_length : length (head_of p) ≡ 32
  head_length =
      let v = bytes 4 p.version in
      let w = words_bytes (three_of p) in
      omega (
        arith,
        length-append (v ++ p.type_guid) w,
        length-append v p.type_guid,
        length_bytes 4 p.version,
        length_words (three_of p),
      )

  pub head_put : (s : List ℕ) (at : ℕ) {a b c : List ℕ} → at + 32 ≤ length s → a ≡ put s at (bytes 4 p.version)
      → b ≡ put a (at + 4) p.type_guid → c ≡ put b (at + 20) (words_bytes (three_of p)) → c ≡ put s at (head_of p)
  head_put s at {a} {b} {c} h q r t =
      let v = bytes 4 p.version in
      let lv : length v ≡ 4 = length_bytes 4 p.version in
      let lw : length (words_bytes (three_of p)) ≡ 12 = length_words (three_of p) in
      let lg = length-append v p.type_guid in
      put_next s at (at + 20) (v ++ p.type_guid) (words_bytes (three_of p)) (omega arith) (omega arith)
      (put_next s at (at + 4) v p.type_guid (omega arith) (omega arith) q r) t

  module _ (low : p.image_index < 256) (s : List ℕ) (at : ℕ) where
    -- in version 1 that is all of it
    pub head_whole : {c : List ℕ} → eqb p.version 1 ≡ true → c ≡ put s at (head_of p) → c ≡ put s at (payload_header_bytes p)
    unfolding payload_header_bytes words_bytes
    head_whole {c} e q = q ∙ rw (e, word_byte p.image_index low) (simp (append_assoc, append-nil))

    -- and else the instance comes behind
    pub head_more : {c d : List ℕ} → eqb p.version 1 ≡ false → at + 40 ≤ length s → c ≡ put s at (head_of p)
        → d ≡ put c (at + 32) (bytes 8 p.hardware_instance) → d ≡ put s at (payload_header_bytes p)
    unfolding payload_header_bytes words_bytes
    head_more {c} {d} e h q r =
        let instance = bytes 8 p.hardware_instance in
        let li : length instance ≡ 8 = length_bytes 8 p.hardware_instance in
        put_next s at (at + 32) (head_of p) instance (omega (arith, head_length)) (omega arith) q r
        ∙ rw (e, word_byte p.image_index low) (simp (append_assoc, append-nil))
