-- Which fields share no byte. Assumes nothing.
use mathlib.Core.Path.{◌≡◌, ap}
use mathlib.Core.Logic.{inl, inr, ⊎_elim}
use Prim.Native.Nat.{ℕ, suc, ◌+◌, ◌*◌, ◌≤◌, ◌<◌}
use native.Mathlib.Nat.{suc-mul}
use native.Mathlib.Omega.{arith}
use native.Mathlib.Decide.{dec_lt}
use Rattle.fields.proofs.Tests.{le_or_lt}
use Rattle.fields.proofs.Beside.{Apart}
use Rattle.record_layout.specs.Layout.{entry_size, entry_at, accepted_at, reserved_at}
use Rattle.record_layout.proofs.Sizes.{at_most}
use Rattle.proof_kept_sound.specs.Fields.{OutsideField, Elsewhere}

-- two fields in entries of E bytes each: in different entries they are apart, in one entry as their offsets are
entries_apart : (E i j o m p n : ℕ) → o + m ≤ E → p + n ≤ E → (i ≡ j → Apart o m p n) → Apart (40 + i * E + o) m (40 + j * E + p) n
entries_apart E i j o m p n a b same = go (dec_lt i j) (dec_lt j i)
  where
    go : Dec (i < j) → Dec (j < i) → Apart (40 + i * E + o) m (40 + j * E + p) n
    go (yes h) k = inl (omega (arith, at_most (suc i) E j E h (omega arith), suc-mul i E))
    go (no h) (yes k) = inr (omega (arith, at_most (suc j) E i E k (omega arith), suc-mul j E))
    go (no h) (no k) =
        let e : i ≡ j = omega arith in
        let f : i * E ≡ j * E = ap (λ (t : ℕ). t * E) e in
        ⊎_elim (λ q. inl (omega arith)) (λ q. inr (omega arith)) (same e)

-- the accepted words of different images or different banks
pub flags_apart : (banks i b j c : ℕ) → b < banks → c < banks → (i ≡ j → b ≡ c → ⊥) → Apart (accepted_at banks i b) 4 (accepted_at banks j c) 4
flags_apart banks i b j c h k differ =
    ⊎_elim (λ q. inl (omega arith)) (λ q. inr (omega arith))
    (entries_apart (entry_size banks) i j (32 + 24 * b + 16) 4 (32 + 24 * c + 16) 4 (omega arith) (omega arith) inside)
  where
    inside : i ≡ j → Apart (32 + 24 * b + 16) 4 (32 + 24 * c + 16) 4
    inside e = go (dec_lt b c) (dec_lt c b)
      where
        go : Dec (b < c) → Dec (c < b) → Apart (32 + 24 * b + 16) 4 (32 + 24 * c + 16) 4
        go (yes p) q = inl (omega arith)
        go (no p) (yes q) = inr (omega arith)
        go (no p) (no q) = absurd (differ e (omega arith))

-- a byte of an entry that is in no accepted word of it is in none of any
entry_elsewhere : (banks images i o : ℕ) → o < entry_size banks → ((c : ℕ) → c < banks → Apart (32 + 24 * c + 16) 4 o 1)
    → Elsewhere banks images (entry_at banks i + o)
entry_elsewhere banks images i o h clear =
    record {
      off_crc = inr (omega arith);
      off_active = inr (omega arith);
      off_previous = inr (omega arith);
      off_states = inr (omega arith);
      off_flags =
          λ j c hj hc.
          ⊎_elim (λ q. inr (omega arith)) (λ q. inl (omega arith))
          (entries_apart (entry_size banks) j i (32 + 24 * c + 16) 4 o 1 (omega arith) (omega arith) (λ e. clear c hc));
    }

-- a byte of a type GUID
pub guid_elsewhere : (banks images i k : ℕ) → k < 16 → Elsewhere banks images (entry_at banks i + k)
guid_elsewhere banks images i k h = entry_elsewhere banks images i k (omega arith) (λ c hc. inr (omega arith))

-- a byte of a reserved word
pub reserved_elsewhere : (banks images i b k : ℕ) → b < banks → k < 4 → Elsewhere banks images (reserved_at banks i b + k)
reserved_elsewhere banks images i b k hb h =
    let e : entry_at banks i + 32 + 24 * b + 20 + k ≡ entry_at banks i + (32 + 24 * b + 20 + k) = omega arith in
    rw e
    (entry_elsewhere banks images i (32 + 24 * b + 20 + k) (omega arith) (λ c hc.
    ⊎_elim (λ q. inl (omega arith)) (λ q. inr (omega arith)) (le_or_lt c b)))

-- a byte of the header
pub header_elsewhere : (banks images k : ℕ) → OutsideField 0 4 k → OutsideField 8 8 k → OutsideField 24 4 k → k < 40 → Elsewhere banks images k
header_elsewhere banks images k crc named states h =
    record {
      off_crc = crc;
      off_active = ⊎_elim (λ q. inl (omega arith)) (λ q. inr (omega arith)) named;
      off_previous = ⊎_elim (λ q. inl (omega arith)) (λ q. inr (omega arith)) named;
      off_states = states;
      off_flags = λ i b hi hb. inl (omega arith);
    }
