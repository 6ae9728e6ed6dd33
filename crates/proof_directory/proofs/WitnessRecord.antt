-- A record of two banks that has what a directory says: which images there are, and which are accepted in bank 0. Its
-- length, its bytes, and what its fields hold. Assumes nothing.
use mathlib.Core.Path.{◌≡◌, refl, ◌∙◌}
use mathlib.Core.Bool.{Bool, true, false, cond}
use mathlib.Core.List.{List, [], ◌∷◌, ◌++◌}
use Prim.Native.Nat.{ℕ, ◌+◌, ◌*◌, ◌≤◌, ◌<◌}
use native.Mathlib.Omega.{arith}
use lib.Dec.{eqb}
use lib.ListN.{length, length-append}
use Rattle.fields.specs.Number.{Bytes, le, bytes, words_bytes}
use Rattle.fields.proofs.Bytes.{append_bytes}
use Rattle.fields.proofs.Words.{length_words, words_bytes_lem, Reads, words_read}
use Rattle.fields.specs.Joined.{joined}
use Rattle.fields.proofs.Joined.{joined_bytes, guid_words, EntryReads, entries_long, entries_read}
use Rattle.record_crc.specs.Crc.{crc32_of}
use Rattle.record_crc.proofs.Register.{crc_low}
use Rattle.record_layout.specs.Every.{below, distinct}
use Rattle.record_layout.specs.Layout.{header_size, image_limit, entry_size, record_size, entry_at, accepted_at, reserved_at}
use Rattle.record_layout.specs.Layout.{bank_count, image_count, type_guid, accepted, reserved}
use Rattle.record_layout.specs.Rules.{valid, accepted_bank}

-- what is wanted of a record: how many images, whether bank 0 is the active one, and each image's type GUID and its
-- accepted flag in bank 0
pub record Wanted : Type 0 where
  pub images : ℕ
  pub right : Bool
  pub guids : ℕ → List ℕ
  pub flags : ℕ → ℕ

-- what a sound record asks of it
pub record Possible (x : Wanted) : Type 0 where
  pub some : 1 ≤ x.images
  pub few : x.images ≤ image_limit
  pub guids_long : (k : ℕ) → k < x.images → length (x.guids k) ≡ 16
  pub guids_small : (k : ℕ) → k < x.images → Bytes (x.guids k)
  pub guids_differ : distinct x.images x.guids ≡ true
  pub flags_low : (k : ℕ) → k < x.images → x.flags k ≤ 1

abbrev pub banks : ℕ
banks = 2

abbrev pub size_for : Wanted → ℕ
size_for x = record_size banks x.images

-- the active bank, and bank 0's state; bank 1 has every image accepted
abbrev pub active_for : Wanted → ℕ
active_for x = cond x.right 0 1

abbrev pub all_for : Wanted → Bool
all_for x = below x.images (λ k. eqb (x.flags k) 1)

abbrev pub state_for : Wanted → ℕ
state_for x = cond (all_for x) accepted_bank valid

abbrev halves : (low high : ℕ) → ℕ
halves low high = low + 0x10000 * high

-- the header behind the CRC, in words: version, active, previous, size, descriptor offset, the four states, reserved,
-- banks and images, the two entry sizes
abbrev pub head_for : Wanted → List ℕ
head_for x =
    2 ∷ active_for x ∷ 0 ∷ size_for x ∷ 32
    ∷ halves (state_for x + 0x100 * accepted_bank) 0xFFFF ∷ 0 ∷ halves banks x.images ∷ halves (entry_size banks) 24 ∷ []

-- an entry behind its type GUID: a second GUID, and of each bank a GUID, the accepted flag and the reserved word
abbrev pub tail_for : Wanted → ℕ → List ℕ
tail_for x k = 0 ∷ 0 ∷ 0 ∷ 0 ∷ 0 ∷ 0 ∷ 0 ∷ 0 ∷ x.flags k ∷ 0 ∷ 0 ∷ 0 ∷ 0 ∷ 0 ∷ 1 ∷ 0 ∷ []

abbrev pub entries_for : Wanted → List ℕ
entries_for x = joined x.images (guid_words x.guids (tail_for x))

abbrev pub crc_for : Wanted → ℕ
crc_for x = crc32_of (words_bytes (head_for x) ++ entries_for x)

unfoldable pub witness_record : Wanted → List ℕ
witness_record x = words_bytes (crc_for x ∷ head_for x) ++ entries_for x

-- ---- one of two
pub active_low : (b : Bool) → cond b 0 1 ≤ 1
active_low true = omega arith
active_low false = omega arith

state_low : (b : Bool) → cond b accepted_bank valid < 256
state_low true = omega arith
state_low false = omega arith

module _ (x : Wanted) (p : Possible x) where
  entries_small : Bytes (entries_for x)
  entries_small =
      joined_bytes x.images (guid_words x.guids (tail_for x)) (λ k h.
      append_bytes (x.guids k) (words_bytes (tail_for x k)) (p.guids_small k h) (words_bytes_lem (tail_for x k)))

  pub record_small : Bytes (witness_record x)
  unfolding witness_record
  record_small = append_bytes (words_bytes (crc_for x ∷ head_for x)) (entries_for x) (words_bytes_lem (crc_for x ∷ head_for x)) entries_small

  header_long : length (words_bytes (crc_for x ∷ head_for x)) ≡ header_size
  header_long = length_words (crc_for x ∷ head_for x)

  pub record_long : length (witness_record x) ≡ size_for x
  unfolding witness_record
  record_long =
      length-append (words_bytes (crc_for x ∷ head_for x)) (entries_for x)
      ∙ omega (arith, header_long, entries_long header_size (entry_size banks) x.images x.guids (tail_for x) (λ k. refl) p.guids_long)

  -- ---- the header: its words, and the two counts
  pub header_is : Reads (witness_record x) 0 0 (crc_for x ∷ head_for x)
  unfolding witness_record
  header_is =
      let body = words_bytes (head_for x) ++ entries_for x in
      let crc-fits = crc_low body (append_bytes (words_bytes (head_for x)) (entries_for x) (words_bytes_lem (head_for x)) entries_small) in
      words_read (crc_for x ∷ head_for x) (witness_record x) 0 0 (entries_for x)
      (omega (arith, crc-fits, p.few, active_low x.right, state_low (all_for x))) refl

  pub banks_is : bank_count (witness_record x) ≡ banks
  unfolding witness_record words_bytes bytes
  banks_is = omega arith

  pub images_is : image_count (witness_record x) ≡ x.images
  unfolding witness_record words_bytes bytes le
  images_is = omega (arith, p.few)

  -- ---- an entry: its type GUID, and what each bank has of it
  module _ (k : ℕ) (h : k < x.images) where
    here : EntryReads (witness_record x) (entry_at banks k) (x.guids k) (tail_for x k)
    unfolding witness_record
    here =
        entries_read header_size (entry_size banks) x.images x.guids (tail_for x) (λ j. refl) p.guids_long
        (words_bytes (crc_for x ∷ head_for x)) (witness_record x) header_long refl k h (omega (arith, p.flags_low k h))

    pub guid_is : type_guid (witness_record x) k ≡ x.guids k
    guid_is = rw banks_is here.0

    pub bank0_is : (accepted (witness_record x) k 0 ≡ x.flags k) × (reserved (witness_record x) k 0 ≡ 0)
    bank0_is =
        let q = here.1.1.1.1.1.1.1.1.1 in
        let flag : accepted_at banks k 0 ≡ entry_at banks k + 48 = omega arith in
        let zero : reserved_at banks k 0 ≡ entry_at banks k + 52 = omega arith in
        rw (banks_is, flag, zero) (q.0, q.1.0)

    pub bank1_is : (accepted (witness_record x) k 1 ≡ 1) × (reserved (witness_record x) k 1 ≡ 0)
    bank1_is =
        let q = here.1.1.1.1.1.1.1.1.1.1.1.1.1.1.1 in
        let flag : accepted_at banks k 1 ≡ entry_at banks k + 72 = omega arith in
        let zero : reserved_at banks k 1 ≡ entry_at banks k + 76 = omega arith in
        rw (banks_is, flag, zero) (q.0, q.1.0)
