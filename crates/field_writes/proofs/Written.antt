-- What is written through a part of a slice, as `put` says it. Assumes nothing.
use mathlib.Core.Path.{◌≡◌, sym, ap, ◌∙◌}
use mathlib.Core.List.{List, ◌++◌, append_assoc}
use Prim.Native.Nat.{ℕ, ◌+◌, ◌-◌, ◌≤◌}
use native.Mathlib.Omega.{arith}
use borrow.Rule.Slice.PartMut.{put_mid}
use lib.ListN.{length, take, drop, length-append}
use lib.Seq.{take_at}
use Rattle.std.specs.Int.{bytes_low_first}
use Rattle.fields.specs.Number.{Bytes, le, put, bytes}
use Rattle.fields.specs.Guid.{guid}
use Rattle.fields.proofs.Number.{length_bytes, to_le}
use Rattle.fields.proofs.Bytes.{drop_number}
use Rattle.fields.proofs.Put.{put_mid_put, put_more}

-- a number of k bytes
pub written : (k : ℕ) (s : List ℕ) (i v : ℕ) {ys : List ℕ} → ys ≡ bytes_low_first 0 k v → put_mid i (i + k - i) s ys ≡ put s i (bytes k v)
written k s i v e =
    let m : i + k - i ≡ k = omega arith in
    rw (m, e, to_le k v) (put_mid_put s i k (bytes k v) (length_bytes k v))

-- a GUID's sixteen bytes are those of two numbers
guid_halves : (t : List ℕ) (o : ℕ) → Bytes t → o + 16 ≤ length t → bytes 8 (le 8 t o) ++ bytes 8 (le 8 t (o + 8)) ≡ guid t o
unfolding guid
guid_halves t o b h =
    let low = bytes 8 (le 8 t o) in
    let high = bytes 8 (le 8 t (o + 8)) in
    let l : length (low ++ high) ≡ 16 = omega (arith, length-append low high, length_bytes 8 (le 8 t o), length_bytes 8 (le 8 t (o + 8))) in
    sym
    (ap (λ (k : List ℕ). take 16 k)
    (drop_number 8 t o b (omega arith)
    ∙ ap (λ (k : List ℕ). low ++ k) (drop_number 8 t (o + 8) b (omega arith))
    ∙ sym (append_assoc low high (drop (o + 8 + 8) t)))
    ∙ take_at (low ++ high) (drop (o + 8 + 8) t) 16 l)

-- two stores that put one, told by what each of them left
pub put_guid : (s t : List ℕ) (i o : ℕ) {one two : List ℕ} → Bytes t → i + 16 ≤ length s → o + 16 ≤ length t
    → one ≡ put s i (bytes 8 (le 8 t o)) → two ≡ put one (i + 8) (bytes 8 (le 8 t (o + 8))) → two ≡ put s i (guid t o)
put_guid s t i o {one} {two} b h k p q =
    let low = bytes 8 (le 8 t o) in
    let high = bytes 8 (le 8 t (o + 8)) in
    let l : length low ≡ 8 = length_bytes 8 (le 8 t o) in
    let m : length high ≡ 8 = length_bytes 8 (le 8 t (o + 8)) in
    q
    ∙ ap (λ (x : List ℕ). put x (i + 8) high) p
    ∙ ap (λ (n : ℕ). put (put s i low) (i + n) high) (sym l)
    ∙ put_more s i low high (omega arith)
    ∙ ap (λ (x : List ℕ). put s i x) (guid_halves t o b k)
