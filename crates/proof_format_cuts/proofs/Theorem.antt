-- The theorem holds for every format and every writer that keep the laws of specs/Format.antt. Assumes nothing.
use mathlib.Core.Path.{◌≡◌, refl, sym, ap, ◌∙◌}
use mathlib.Core.Logic.{◌⊎◌, inl, inr}
use mathlib.Core.Bool.{Bool, true, false, cond}
use mathlib.Core.Option.{none, some}
use mathlib.Core.List.{List, []}
use Prim.Native.Nat.{ℕ, ◌≤◌, ◌<◌}
use native.Mathlib.Omega.{arith}
use native.Mathlib.Decide.{dec_le}
use lib.ListN.{length, drop}
use Rattle.fields.specs.Number.{Bytes}
use Rattle.fields.proofs.Bytes.{take_bytes, drop_bytes}
use Rattle.fields.proofs.Guid.{same_refl}
use Rattle.proof_format_cuts.specs.Area.{after_stores, after_cut}
use Rattle.proof_format_cuts.specs.Format.{Format, FormatLaws, Writer, WriterLaws, Area, record_of, sound_copy, copy0, copy1}
use Rattle.proof_format_cuts.specs.Theorem.{read_of, record_read, BothHold, sparing, change_list, cut, Survives, Stays, FormatCutsHold}
use Rattle.proof_format_cuts.proofs.Copy.{Holds, holds_sound}
use Rattle.proof_format_cuts.proofs.Cut.{read_first, read_second, into0, early, late, last_read, written}

-- no store into a copy that holds the record
spared : (F : Format) (W : Writer) (c r : List ℕ) → record_of F c ≡ r → sparing F W c r ≡ []
unfolding sparing
spared F W c r e = rw (e, same_refl r)

none_listed : (F : Format) (W : Writer) (a r : List ℕ) → BothHold F r a → change_list F W a r ≡ []
unfolding change_list
none_listed F W a r both = rw (spared F W (copy0 F a) r both.is0, spared F W (copy1 F a) r both.is1)

module _ (F : Format) (laws : FormatLaws F) (W : Writer) (w : WriterLaws F W) (a old new : List ℕ) (area : Area F a)
    (both : BothHold F old a) (bytes-new : Bytes new) (sound-new : F.sound new ≡ true) where
  -- the new record is read once copy 0 is written
  abbrev turn : ℕ
  turn = length (into0 F W a new)

  before : read_of F (copy0 F a) (copy1 F a) ≡ some old
  before = read_first F old (copy0 F a) (copy1 F a) (record { good = both.sound0; is = both.is0 })

  old_at : (n : ℕ) → n < turn → record_read F (cut F W a new n) ≡ some old
  old_at n h = early F laws W w a new area bytes-new sound-new old n before (record { good = both.sound1; is = both.is1 }) h

  new_at : (n : ℕ) → turn ≤ n → record_read F (cut F W a new n) ≡ some new
  new_at n h = late F laws W w a new area bytes-new sound-new n h

  either_at : (n : ℕ) → Dec (turn ≤ n) → (record_read F (cut F W a new n) ≡ some old) ⊎ (record_read F (cut F W a new n) ≡ some new)
  either_at n (yes h) = inr (new_at n h)
  either_at n (no h) = inl (old_at n (omega arith))

  -- before any store the old record is read, whether or not there are stores
  none_at : record_read F (cut F W a new 0) ≡ some old
  unfolding cut after_cut after_stores record_read
  none_at = before

  later_at : (n m : ℕ) → n ≤ m → record_read F (cut F W a new n) ≡ some new → Dec (turn ≤ m) → record_read F (cut F W a new m) ≡ some new
  later_at n m h e (yes j) = new_at m j
  later_at n m h e (no j) = old_at m (omega arith) ∙ sym (old_at n (omega arith)) ∙ e

  survives : (n : ℕ) → Survives F W a old new n
  survives n =
      record {
        either = either_at n (dec_le turn n);
        first = λ e. ap (λ (k : ℕ). record_read F (cut F W a new k)) e ∙ none_at;
        last = λ h. last_read F laws W w a new area bytes-new sound-new n h;
        later = λ m h e. later_at n m h e (dec_le turn m);
        written = written F laws W w a new area bytes-new sound-new n;
      }

-- ---- the record that is read
record_bytes : (F : Format) (r c : List ℕ) → Bytes c → Holds F r c → Bytes r
unfolding record_of
record_bytes F r c b h = rw h.is at (take_bytes (F.size_of c) c b)

module _ (F : Format) (laws : FormatLaws F) (W : Writer) (w : WriterLaws F W) (a r : List ℕ) (n : ℕ) (area : Area F a) where
  -- from copy 0: no store goes there
  stays0 : Holds F r (copy0 F a) → Stays F W a r n
  stays0 h =
      let b : Bytes r = record_bytes F r (copy0 F a) (take_bytes F.copy_size a area.bytes) h in
      let s = holds_sound F r (copy0 F a) h in
      record {
        reads = late F laws W w a r area b s n (rw (spared F W (copy0 F a) r h.is) (omega arith));
        written = written F laws W w a r area b s n;
      }

  -- from copy 1, where copy 0 is unsound: unsound until the last store into it, and then it holds the record too
  stays1 : sound_copy F (copy0 F a) ≡ false → Holds F r (copy1 F a) → Stays F W a r n
  stays1 u h =
      let b : Bytes r =
      record_bytes F r (copy1 F a) (take_bytes F.copy_size (drop F.copy_size a) (drop_bytes F.copy_size a area.bytes)) h in
      let s = holds_sound F r (copy1 F a) h in
      record { reads = go b s (dec_le (length (into0 F W a r)) n); written = written F laws W w a r area b s n }
    where
      go : Bytes r → F.sound r ≡ true → Dec (length (into0 F W a r) ≤ n) → record_read F (cut F W a r n) ≡ some r
      go b s (yes k) = late F laws W w a r area b s n k
      go b s (no k) = early F laws W w a r area b s r n (read_second F r (copy0 F a) (copy1 F a) u h) h (omega arith)

  stays : record_read F a ≡ some r → Stays F W a r n
  unfolding record_read read_of
  stays e = go (sound_copy F (copy0 F a)) (sound_copy F (copy1 F a)) refl refl e
    where
      go : (s t : Bool) → sound_copy F (copy0 F a) ≡ s → sound_copy F (copy1 F a) ≡ t
          → cond s (some (record_of F (copy0 F a))) (cond t (some (record_of F (copy1 F a))) none) ≡ some r
          → Stays F W a r n
      go true t p q e = stays0 (record { good = p; is = cc })
      go false true p q e = stays1 p (record { good = q; is = cc })
      go false false p q e = absurd (let z : ◌≡◌ {A = ℕ} 0 1 = cc in omega arith)

pub format_cuts : FormatCutsHold
format_cuts F laws W w =
    record {
      change = λ a old new n area both bytes-new sound-new. survives F laws W w a old new area both bytes-new sound-new n;
      restore = λ a r n area e. stays F laws W w a r n area e;
      none = λ a r both. none_listed F W a r both;
    }
