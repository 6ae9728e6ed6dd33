-- What a record says once one of its fields is set anew. Assumes nothing.
use mathlib.Core.Path.{◌≡◌, refl, sym, ◌∙◌}
use mathlib.Core.Bool.{Bool, true, false, cond, ◌&&◌}
use mathlib.Core.Logic.{inl, inr, ⊎_elim}
use mathlib.Core.List.{List, [], ◌∷◌}
use Prim.Native.Nat.{ℕ, zero, suc, ◌+◌, ◌^◌, ◌≤◌, ◌<◌}
use native.Mathlib.Omega.{arith}
use borrow.Author.Tests.{eqb-true, eqb-false, eq-eqb}
use lib.Dec.{eqb}
use lib.ListN.{length, get_or, drop}
use Rattle.fields.specs.Number.{Bytes, le, bytes, put}
use Rattle.fields.proofs.Tests.{no_true, both, le_or_lt}
use Rattle.fields.proofs.Number.{length_bytes}
use Rattle.fields.proofs.Put.{put_length, put_after, read_back}
use Rattle.fields.proofs.Bytes.{bytes_small, put_bytes, drop_bytes}
use Rattle.fields.proofs.Beside.{Apart, byte_beside, le_beside, byte_back}
use Rattle.record_crc.specs.Crc.{crc32_of}
use Rattle.record_crc.proofs.Register.{crc_low}
use Rattle.record_layout.specs.Layout.{active, previous, state, bank_count, accepted_at}
use Rattle.record_layout.specs.Rules.{crc_rule}
use Rattle.record_layout.specs.Sized.{Sized}
use Rattle.record_layout.proofs.Sizes.{bank_in, header_in}
use Rattle.record_alterations.specs.Fields.{set_active, set_previous, set_state, set_accepted, with_crc}
use Rattle.proof_kept_sound.specs.Fields.{Fields, with_active, with_previous, with_state, with_flag, OutsideField, Elsewhere}
use Rattle.proof_kept_sound.proofs.Places.{flags_apart, header_elsewhere}

-- x is as long as r, is bytes, has the fields f, and elsewhere the bytes of r
pub record Says (r : List ℕ) (banks images : ℕ) (x : List ℕ) (f : Fields) : Type 0 where
  pub long : length x ≡ length r
  pub small : Bytes x
  pub active_is : active x ≡ f.active_bank
  pub previous_is : previous x ≡ f.previous_bank
  pub state_is : (b : ℕ) → b < 4 → state x b ≡ f.states b
  pub flag_is : (i b : ℕ) → i < images → b < banks → le 4 x (accepted_at banks i b) ≡ f.flags i b
  pub stays : (k : ℕ) → Elsewhere banks images k → get_or x k 0 ≡ get_or r k 0

-- one byte is bytes
one_small : (v : ℕ) → v < 256 → Bytes (v ∷ [])
one_small v h zero = h
one_small v h (suc i) = omega arith

-- a byte at b and one at c
bytes_apart : (b c : ℕ) → (c ≡ b → ⊥) → OutsideField (24 + b) 1 (24 + c)
bytes_apart b c differ =
    ⊎_elim (λ h. ⊎_elim (λ k. absurd (differ (omega arith))) (λ k. inr (omega arith)) (le_or_lt c b)) (λ h. inl (omega arith)) (le_or_lt b c)

module _ (r : List ℕ) (banks images : ℕ) (s : Sized r banks images) (x : List ℕ) (f : Fields) (y : Says r banks images x f) where
  header : 40 ≤ length x
  header = omega (arith, header_in r banks images s, y.long)

  pub says_banks : bank_count x ≡ banks
  says_banks = y.stays 32 (header_elsewhere banks images 32 (inr (omega arith)) (inr (omega arith)) (inr (omega arith)) (omega arith)) ∙ s.banks_is

  -- a word of the header, before the states, which hold no byte of it
  module _ (p v : ℕ) (fits : p + 4 ≤ 24) where
    word_beside : (n j : ℕ) → Apart p 4 j n → le n (put x p (bytes 4 v)) j ≡ le n x j
    word_beside n j a = le_beside x p 4 (bytes 4 v) (length_bytes 4 v) (omega (arith, header)) n j a

    byte_stays : (k : ℕ) → OutsideField p 4 k → get_or (put x p (bytes 4 v)) k 0 ≡ get_or x k 0
    byte_stays k o = byte_beside x p 4 (bytes 4 v) (length_bytes 4 v) (omega (arith, header)) k o

    says_word : (a q : ℕ) → active (put x p (bytes 4 v)) ≡ a → previous (put x p (bytes 4 v)) ≡ q
        → ((k : ℕ) → Elsewhere banks images k → OutsideField p 4 k)
        → Says r banks images (put x p (bytes 4 v)) (with_active a (with_previous q f))
    says_word a q is was off =
        record {
          long = put_length x p (bytes 4 v) (rw (length_bytes 4 v) (omega (arith, header))) ∙ y.long;
          small = put_bytes x p (bytes 4 v) y.small (bytes_small 4 v);
          active_is = is;
          previous_is = was;
          state_is = λ c k. byte_stays (24 + c) (inr (omega arith)) ∙ y.state_is c k;
          flag_is = λ i b hi hb. word_beside 4 (accepted_at banks i b) (inl (omega arith)) ∙ y.flag_is i b hi hb;
          stays = λ k e. byte_stays k (off k e) ∙ y.stays k e;
        }

  pub says_active : (b : ℕ) → b < 2 ^ 32 → Says r banks images (set_active b x) (with_active b f)
  unfolding set_active
  says_active b h =
      says_word 8 b (omega arith) b f.previous_bank (read_back 4 x 8 b (omega (arith, header)) (omega arith))
      (word_beside 8 b (omega arith) 4 12 (inl (omega arith)) ∙ y.previous_is) (λ k e. e.off_active)

  pub says_previous : (b : ℕ) → b < 2 ^ 32 → Says r banks images (set_previous b x) (with_previous b f)
  unfolding set_previous
  says_previous b h =
      says_word 12 b (omega arith) f.active_bank b (word_beside 12 b (omega arith) 4 8 (inr (omega arith)) ∙ y.active_is)
      (read_back 4 x 12 b (omega (arith, header)) (omega arith)) (λ k e. e.off_previous)

  -- the CRC is no field of f
  pub says_crc : Says r banks images (with_crc x) f
  unfolding with_crc
  says_crc =
      let v = crc32_of (drop 4 x) in
      says_word 0 v (omega arith) f.active_bank f.previous_bank (word_beside 0 v (omega arith) 4 8 (inl (omega arith)) ∙ y.active_is)
      (word_beside 0 v (omega arith) 4 12 (inl (omega arith)) ∙ y.previous_is) (λ k e. e.off_crc)

  -- and it agrees
  pub crc_agrees : crc_rule (with_crc x) ≡ true
  unfolding crc_rule with_crc
  crc_agrees =
      let v = crc32_of (drop 4 x) in
      let low = crc_low (drop 4 x) (drop_bytes 4 x y.small) in
      let n : 0 + length (bytes 4 v) ≡ 4 = omega (arith, length_bytes 4 v) in
      let after : drop 4 (put x 0 (bytes 4 v)) ≡ drop 4 x = rw n at (put_after x 0 (bytes 4 v) (rw n (omega (arith, header)))) in
      rw (after, read_back 4 x 0 v (omega (arith, header)) (omega arith)) (eq-eqb v v refl)

  -- the state of bank b
  pub says_state : (b v : ℕ) → b < 4 → v < 256 → Says r banks images (set_state b v x) (with_state b v f)
  unfolding set_state
  says_state b v hb hv =
      record {
        long = put_length x (24 + b) (v ∷ []) fits ∙ y.long;
        small = put_bytes x (24 + b) (v ∷ []) y.small (one_small v hv);
        active_is = beside 4 8 (inr (omega arith)) ∙ y.active_is;
        previous_is = beside 4 12 (inr (omega arith)) ∙ y.previous_is;
        state_is = λ c k. go c k (eqb c b) refl;
        flag_is = λ i c hi hc. beside 4 (accepted_at banks i c) (inl (omega arith)) ∙ y.flag_is i c hi hc;
        stays =
            λ k e.
            byte_beside x (24 + b) 1 (v ∷ []) refl fits k
            (⊎_elim (λ q. inl (omega arith)) (λ q. inr (omega arith)) e.off_states)
            ∙ y.stays k e;
      }
    where
      fits : 24 + b + 1 ≤ length x
      fits = omega (arith, header)

      beside : (n j : ℕ) → Apart (24 + b) 1 j n → le n (put x (24 + b) (v ∷ [])) j ≡ le n x j
      beside n j a = le_beside x (24 + b) 1 (v ∷ []) refl fits n j a

      go : (c : ℕ) → c < 4 → (t : Bool) → eqb c b ≡ t → get_or (put x (24 + b) (v ∷ [])) (24 + c) 0 ≡ cond t v (f.states c)
      go c k true e = rw (eqb-true c b e) (byte_back x (24 + b) v fits)
      go c k false e = byte_beside x (24 + b) 1 (v ∷ []) refl fits (24 + c) (bytes_apart b c (eqb-false c b e)) ∙ y.state_is c k

  -- whether image i is accepted in bank b
  pub says_flag : (i b v : ℕ) → i < images → b < banks → v < 2 ^ 32 → Says r banks images (set_accepted i b v x) (with_flag i b v f)
  unfolding set_accepted
  says_flag i b v hi hb hv =
      rw says_banks
      (record {
        long = put_length x (accepted_at banks i b) (bytes 4 v) (rw (length_bytes 4 v) fits) ∙ y.long;
        small = put_bytes x (accepted_at banks i b) (bytes 4 v) y.small (bytes_small 4 v);
        active_is = beside 4 8 (inr (omega arith)) ∙ y.active_is;
        previous_is = beside 4 12 (inr (omega arith)) ∙ y.previous_is;
        state_is = λ c k. stays_byte (24 + c) (inl (omega arith)) ∙ y.state_is c k;
        flag_is = λ j c hj hc. go j c hj hc (eqb c b && eqb j i) refl;
        stays = λ k e. stays_byte k (e.off_flags i b hi hb) ∙ y.stays k e;
      })
    where
      fits : accepted_at banks i b + 4 ≤ length x
      fits = omega (arith, bank_in r banks images i b s hi hb, y.long)

      beside : (n j : ℕ) → Apart (accepted_at banks i b) 4 j n → le n (put x (accepted_at banks i b) (bytes 4 v)) j ≡ le n x j
      beside n j a = le_beside x (accepted_at banks i b) 4 (bytes 4 v) (length_bytes 4 v) fits n j a

      stays_byte : (k : ℕ) → OutsideField (accepted_at banks i b) 4 k → get_or (put x (accepted_at banks i b) (bytes 4 v)) k 0 ≡ get_or x k 0
      stays_byte k o = byte_beside x (accepted_at banks i b) 4 (bytes 4 v) (length_bytes 4 v) fits k o

      go : (j c : ℕ) → j < images → c < banks → (t : Bool) → (eqb c b && eqb j i) ≡ t
          → le 4 (put x (accepted_at banks i b) (bytes 4 v)) (accepted_at banks j c) ≡ cond t v (f.flags j c)
      go j c hj hc true e =
          let p = both (eqb c b) (eqb j i) e in
          rw (eqb-true c b p.0, eqb-true j i p.1) (read_back 4 x (accepted_at banks i b) v fits (omega arith))
      go j c hj hc false e =
          beside 4 (accepted_at banks j c)
          (flags_apart banks i b j c hb hc (λ p q. no_true (sym (rw (eq-eqb c b (sym q), eq-eqb j i (sym p)) at e))))
          ∙ y.flag_is j c hj hc
