-- Tables of parts and of payloads, written and read: what each entry tells is read of it. t is the bytes of a table.
-- Assumes nothing.
use mathlib.Core.Path.{◌≡◌, refl, sym, ap, ◌∙◌}
use mathlib.Core.List.{List, [], ◌∷◌, ◌++◌, append_assoc}
use Prim.Native.Nat.{ℕ, zero, suc, ◌+◌, ◌*◌, ◌-◌, ◌/◌, ◌^◌, ◌≤◌, ◌<◌}
use native.Mathlib.Nat.{add-zero, add_assoc, mul_comm, mul-div_cancel}
use native.Mathlib.Omega.{arith}
use lib.ListN.{length, take, drop, get_or, length-append}
use lib.Seq.{take_at, get_or-drop}
use Rattle.fields.specs.Number.{Bytes, le, bytes}
use Rattle.fields.specs.Guid.{guid}
use Rattle.fields.specs.Part.{Range, range}
use Rattle.fields.specs.Joined.{joined}
use Rattle.fields.proofs.Number.{length_bytes}
use Rattle.fields.proofs.Bytes.{append_bytes, bytes_small}
use Rattle.fields.proofs.Words.{number_at}
use Rattle.fields.proofs.Joined.{joined_length, joined_at}
use Rattle.capsule_contents.specs.Contents.{PayloadContents}
use Rattle.capsule_contents.specs.Lent.{range_at}
use Rattle.proof_packing.specs.RoundTrip.{told_part}
use Rattle.fields.proofs.Stacked.{behind}

-- what stands behind a list at b + o. o is a numeral, so that the places are told as a layout tells them
further : (t a rest : List ℕ) (b o n : ℕ) → drop (b + o) t ≡ a ++ rest → length a ≡ n → drop (b + (o + n)) t ≡ rest
further t a rest b o n e l = ap (λ (k : ℕ). drop k t) (sym (add_assoc b o n)) ∙ behind t a rest (b + o) n e l

-- ---- a table of n entries of w bytes
module _ (w n : ℕ) (g : ℕ → List ℕ) (wide : (k : ℕ) → k < n → length (g k) ≡ w) where
  pub entries_told : 0 < w → length (joined n g) / w ≡ n
  entries_told some = rw (joined_length w n g wide) (mul-div_cancel n some)

  pub entry_told : (k : ℕ) → k < n → drop (w * k) (joined n g) ≡ g k ++ drop (w * k + w) (joined n g)
  entry_told k lt = rw (mul_comm w k) (joined_at w n k g wide lt)

-- ---- a part: its start and its length
pub told_long : (r : Range) → length (told_part r) ≡ 16
told_long r =
    length-append (bytes 8 r.start) (bytes 8 (r.end - r.start))
    ∙ omega (arith, length_bytes 8 r.start, length_bytes 8 (r.end - r.start))

pub told_small : (r : Range) → Bytes (told_part r)
told_small r =
    append_bytes (bytes 8 r.start) (bytes 8 (r.end - r.start)) (bytes_small 8 r.start) (bytes_small 8 (r.end - r.start))

-- one that is told in 64 bits
pub record Tells (r : Range) : Type 0 where
  pub ordered : r.start ≤ r.end
  pub low : r.end < 2 ^ 64

pub told_read : (t : List ℕ) (o : ℕ) (r : Range) (rest : List ℕ) → Tells r → drop o t ≡ told_part r ++ rest → range_at t o ≡ r
told_read t o r rest tells e =
    let size = r.end - r.start in
    let first = e ∙ append_assoc (bytes 8 r.start) (bytes 8 size) rest in
    let second = behind t (bytes 8 r.start) (bytes 8 size ++ rest) o 8 first (length_bytes 8 r.start) in
    let start = number_at 8 t o r.start (bytes 8 size ++ rest) (omega arith) first in
    let long = number_at 8 t (o + 8) size rest (omega arith) second in
    let end : le 8 t o + le 8 t (o + 8) ≡ r.end = omega arith in
    λ i. range (start i) (end i)

-- ---- a payload: its values and its two parts
abbrev pub entry_of : PayloadContents → (image code : Range) → List ℕ
entry_of q image code =
    bytes 4 q.version
    ++ q.type_guid
    ++ (q.image_index ∷ 0 ∷ 0 ∷ 0 ∷ [])
    ++ bytes 8 q.hardware_instance
    ++ told_part image
    ++ told_part code

-- its values fit
pub record Fits (q : PayloadContents) : Type 0 where
  pub version : q.version < 2 ^ 32
  pub guid_long : length q.type_guid ≡ 16
  pub guid_small : Bytes q.type_guid
  pub index : q.image_index < 256
  pub instance : q.hardware_instance < 2 ^ 64

-- what is read at b
pub record PayloadReads (t : List ℕ) (b : ℕ) (q : PayloadContents) (r u : Range) : Type 0 where
  pub version : le 4 t b ≡ q.version
  pub type_guid : guid t (b + 4) ≡ q.type_guid
  pub image_index : get_or t (b + 20) 0 ≡ q.image_index
  pub hardware_instance : le 8 t (b + 24) ≡ q.hardware_instance
  pub image : range_at t (b + 32) ≡ r
  pub code : range_at t (b + 48) ≡ u

index_small : (v : ℕ) → v < 256 → Bytes (v ∷ 0 ∷ 0 ∷ 0 ∷ [])
index_small v h zero = h
index_small v h (suc zero) = omega arith
index_small v h (suc (suc zero)) = omega arith
index_small v h (suc (suc (suc zero))) = omega arith
index_small v h (suc (suc (suc (suc i)))) = omega arith

module _ (q : PayloadContents) (image code : Range) (fits : Fits q) where
  abbrev index : List ℕ
  index = q.image_index ∷ 0 ∷ 0 ∷ 0 ∷ []

  pub entry_long : length (entry_of q image code) ≡ 64
  entry_long = simp (length-append, length_bytes, fits.guid_long)

  pub entry_small : Bytes (entry_of q image code)
  entry_small =
      let two = bytes 4 q.version ++ q.type_guid in
      let own = bytes 8 q.hardware_instance in
      append_bytes (two ++ index ++ own ++ told_part image) (told_part code)
      (append_bytes (two ++ index ++ own) (told_part image)
      (append_bytes (two ++ index) own
      (append_bytes two index
      (append_bytes (bytes 4 q.version) q.type_guid (bytes_small 4 q.version) fits.guid_small)
      (index_small q.image_index fits.index))
      (bytes_small 8 q.hardware_instance))
      (told_small image))
      (told_small code)

  -- each field, at its place
  module _ (t : List ℕ) (b : ℕ) (rest : List ℕ) (here : drop b t ≡ entry_of q image code ++ rest) where
    at_0 : drop b t
        ≡ bytes 4 q.version
        ++ (q.type_guid ++ (index ++ (bytes 8 q.hardware_instance ++ (told_part image ++ (told_part code ++ rest)))))
    at_0 = here ∙ simp append_assoc

    at_4 : drop (b + 4) t ≡ q.type_guid ++ (index ++ (bytes 8 q.hardware_instance ++ (told_part image ++ (told_part code ++ rest))))
    at_4 = behind t (bytes 4 q.version) _ b 4 at_0 (length_bytes 4 q.version)

    at_20 : drop (b + 20) t ≡ index ++ (bytes 8 q.hardware_instance ++ (told_part image ++ (told_part code ++ rest)))
    at_20 = further t q.type_guid _ b 4 16 at_4 fits.guid_long

    at_24 : drop (b + 24) t ≡ bytes 8 q.hardware_instance ++ (told_part image ++ (told_part code ++ rest))
    at_24 = further t index _ b 20 4 at_20 refl

    at_32 : drop (b + 32) t ≡ told_part image ++ (told_part code ++ rest)
    at_32 = further t (bytes 8 q.hardware_instance) _ b 24 8 at_24 (length_bytes 8 q.hardware_instance)

    at_48 : drop (b + 48) t ≡ told_part code ++ rest
    at_48 = further t (told_part image) _ b 32 16 at_32 (told_long image)

    pub entry_read : Tells image → Tells code → PayloadReads t b q image code
    unfolding guid
    entry_read tells-image tells-code =
        record {
          version = number_at 4 t b q.version _ fits.version at_0;
          type_guid = ap (λ (l : List ℕ). take 16 l) at_4 ∙ take_at q.type_guid _ 16 fits.guid_long;
          image_index =
              ap (λ (k : ℕ). get_or t k 0) (sym (add-zero (b + 20)))
              ∙ sym (get_or-drop (b + 20) t 0 0)
              ∙ ap (λ (l : List ℕ). get_or l 0 0) at_20;
          hardware_instance = number_at 8 t (b + 24) q.hardware_instance _ fits.instance at_24;
          image = told_read t (b + 32) image (told_part code ++ rest) tells-image at_32;
          code = told_read t (b + 48) code rest tells-code at_48;
        }
