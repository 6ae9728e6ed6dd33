-- A record written over both copies, cut after n of the stores: what was read before is read while copy 0 is not
-- written, the record from then on. Assumes nothing.
use mathlib.Core.Path.{◌≡◌, sym, ap, ◌∙◌}
use mathlib.Core.Logic.{◌⊎◌, inl, inr}
use mathlib.Core.Bool.{true, false}
use mathlib.Core.Option.{some}
use mathlib.Core.List.{List, ◌++◌, map}
use Prim.Native.Nat.{ℕ, ◌+◌, ◌-◌, ◌≤◌, ◌<◌}
use native.Mathlib.Omega.{arith}
use lib.ListN.{length, take, drop, length-map, length-append, length-drop, take-append-drop}
use lib.Seq.{take_all, take_at, drop_at, length-take-le}
use Rattle.fields.specs.Number.{Bytes}
use Rattle.fields.proofs.Bytes.{take_bytes, drop_bytes}
use Rattle.record_stores.specs.Stores.{Store, shift}
use Rattle.proof_format_cuts.specs.Area.{after_stores, after_cut}
use Rattle.proof_format_cuts.specs.Format.{Format, FormatLaws, Writer, WriterLaws, Writable, Area, sound_copy, copy0, copy1, over}
use Rattle.proof_format_cuts.specs.Theorem.{read_of, record_read, BothHold, sparing, change_list, cut, Written}
use Rattle.proof_format_cuts.proofs.Runs.{stores_bytes, stores_both}
use Rattle.proof_format_cuts.proofs.Copy.{Holds, sparing_writes, in_copy, part_length, part, all_over, all_holds}

-- ---- which copy is read
pub read_first : (F : Format) (r x y : List ℕ) → Holds F r x → read_of F x y ≡ some r
unfolding read_of
read_first F r x y h = rw (h.good, h.is)

pub read_second : (F : Format) (r x y : List ℕ) → sound_copy F x ≡ false → Holds F r y → read_of F x y ≡ some r
unfolding read_of
read_second F r x y u h = rw (u, h.good, h.is)

-- ---- an area as its two copies
module _ (F : Format) (a x y : List ℕ) (whole : a ≡ x ++ y) (long0 : length x ≡ F.copy_size) (long1 : length y ≡ F.copy_size) where
  pub is_copy0 : copy0 F a ≡ x
  is_copy0 = ap (take F.copy_size) whole ∙ take_at x y F.copy_size long0

  pub is_copy1 : copy1 F a ≡ y
  is_copy1 =
      ap (λ (l : List ℕ). take F.copy_size l) (ap (drop F.copy_size) whole ∙ drop_at x y F.copy_size long0)
      ∙ take_all F.copy_size y (omega arith)

  pub both_hold : (r : List ℕ) → Holds F r x → Holds F r y → BothHold F r a
  both_hold r h0 h1 =
      record { sound0 = rw is_copy0 h0.good; is0 = rw is_copy0 h0.is; sound1 = rw is_copy1 h1.good; is1 = rw is_copy1 h1.is }

module _ (F : Format) (a r : List ℕ) (area : Area F a) (bytes-r : Bytes r) (sound-r : F.sound r ≡ true) where
  behind_long : length (drop F.copy_size a) ≡ F.copy_size
  behind_long = length-drop F.copy_size a ∙ omega (arith, area.long)

  behind : copy1 F a ≡ drop F.copy_size a
  behind = take_all F.copy_size (drop F.copy_size a) (omega (arith, behind_long))

  fit0 : Writable F (copy0 F a) r
  fit0 =
      record {
        long = length-take-le F.copy_size a (omega (arith, area.long));
        bytes = take_bytes F.copy_size a area.bytes;
        record_bytes = bytes-r;
        is_sound = sound-r;
      }

  fit1 : Writable F (copy1 F a) r
  fit1 =
      record {
        long = rw behind behind_long;
        bytes = take_bytes F.copy_size (drop F.copy_size a) (drop_bytes F.copy_size a area.bytes);
        record_bytes = bytes-r;
        is_sound = sound-r;
      }

-- ---- the cut
module _ (F : Format) (W : Writer) (a r : List ℕ) where
  -- the stores into copy 0, and those into copy 1
  abbrev pub into0 : List Store
  into0 = sparing F W (copy0 F a) r

  abbrev pub into1 : List Store
  into1 = sparing F W (copy1 F a) r

  -- the copies after n stores
  abbrev cut0 : ℕ → List ℕ
  cut0 n = after_stores (copy0 F a) (take n into0)

  abbrev cut1 : ℕ → List ℕ
  cut1 n = after_stores (copy1 F a) (take (n - length into0) into1)

module _ (F : Format) (laws : FormatLaws F) (W : Writer) (w : WriterLaws F W) (a r : List ℕ) (area : Area F a)
    (bytes-r : Bytes r) (sound-r : F.sound r ≡ true) where
  abbrev v : WriterLaws F (sparing F W)
  v = sparing_writes F W w

  abbrev f0 : Writable F (copy0 F a) r
  f0 = fit0 F a r area bytes-r sound-r

  abbrev f1 : Writable F (copy1 F a) r
  f1 = fit1 F a r area bytes-r sound-r

  -- each copy is cut by itself
  whole : (n : ℕ) → cut F W a r n ≡ cut0 F W a r n ++ cut1 F W a r n
  unfolding cut change_list after_cut
  whole n =
      ap (λ (l : List ℕ). after_stores l (take n (into0 F W a r ++ map (shift F.copy_size) (into1 F W a r)))) split
      ∙ ap (λ (k : ℕ). after_stores (copy0 F a ++ copy1 F a) (take n (into0 F W a r ++ map (shift k) (into1 F W a r)))) (sym f0.long)
      ∙ stores_both (copy0 F a) (copy1 F a) (into0 F W a r) (into1 F W a r) n (in_copy F laws (sparing F W) v (copy0 F a) r f0)
    where
      split : a ≡ copy0 F a ++ copy1 F a
      split = rw (behind F a r area bytes-r sound-r) (sym (take-append-drop F.copy_size a))

  long0 : (n : ℕ) → length (cut0 F W a r n) ≡ F.copy_size
  long0 n = part_length F laws (sparing F W) v (copy0 F a) r f0 n

  long1 : (n : ℕ) → length (cut1 F W a r n) ≡ F.copy_size
  long1 n = part_length F laws (sparing F W) v (copy1 F a) r f1 (n - length (into0 F W a r))

  read_is : (n : ℕ) → record_read F (cut F W a r n) ≡ read_of F (cut0 F W a r n) (cut1 F W a r n)
  unfolding record_read
  read_is n =
      rw (
        is_copy0 F (cut F W a r n) (cut0 F W a r n) (cut1 F W a r n) (whole n) (long0 n) (long1 n),
        is_copy1 F (cut F W a r n) (cut0 F W a r n) (cut1 F W a r n) (whole n) (long0 n) (long1 n),
      )

  -- while copy 0 is not written, what was read is read still: from where it was before the first store, then from copy
  -- 1, which no store has touched
  pub early : (old : List ℕ) (n : ℕ) → read_of F (copy0 F a) (copy1 F a) ≡ some old → Holds F old (copy1 F a) → n < length (into0 F W a r)
      → record_read F (cut F W a r n) ≡ some old
  unfolding after_stores
  early old n e has h = read_is n ∙ ap (read_of F (cut0 F W a r n)) untouched ∙ go (part F laws (sparing F W) v (copy0 F a) r f0 n h)
    where
      untouched : cut1 F W a r n ≡ copy1 F a
      untouched =
          let z : n - length (into0 F W a r) ≡ 0 = omega arith in
          ap (λ (k : ℕ). after_stores (copy1 F a) (take k (into1 F W a r))) z

      go : (cut0 F W a r n ≡ copy0 F a) ⊎ (sound_copy F (cut0 F W a r n) ≡ false) → read_of F (cut0 F W a r n) (copy1 F a) ≡ some old
      go (inl q) = rw q e
      go (inr u) = read_second F old (cut0 F W a r n) (copy1 F a) u has

  -- once it is, the record is read from it
  pub late : (n : ℕ) → length (into0 F W a r) ≤ n → record_read F (cut F W a r n) ≡ some r
  late n h = read_is n ∙ read_first F r (cut0 F W a r n) (cut1 F W a r n) (all_holds F laws (sparing F W) v (copy0 F a) r f0 n h)

  -- all of them are those into copy 0 and those into copy 1
  done : (n : ℕ) → length (change_list F W a r) ≤ n → (length (into0 F W a r) ≤ n) × (length (into1 F W a r) ≤ n - length (into0 F W a r))
  unfolding change_list
  done n h =
      let k : length (into0 F W a r) + length (into1 F W a r) ≤ n = rw (length-append, length-map) at h in
      (omega arith, omega arith)

  pub last_read : (n : ℕ) → length (change_list F W a r) ≤ n → record_read F (cut F W a r n) ≡ some r
  last_read n h = late n (done n h).0

  pub written : (n : ℕ) → Written F W a r n
  written n =
      record {
        kept =
            ap length (whole n) ∙ length-append (cut0 F W a r n) (cut1 F W a r n) ∙ omega (arith, long0 n, long1 n, area.long);
        bytes = unfold cut after_cut in stores_bytes a (take n (change_list F W a r)) area.bytes;
        after_all = λ h.
            both_hold F (cut F W a r n) (cut0 F W a r n) (cut1 F W a r n) (whole n) (long0 n) (long1 n) r
            (all_holds F laws (sparing F W) v (copy0 F a) r f0 n (done n h).0)
            (all_holds F laws (sparing F W) v (copy1 F a) r f1 (n - length (into0 F W a r)) (done n h).1);
        area = λ h.
            whole n
            ∙ ap (λ (l : List ℕ). l ++ cut1 F W a r n) (all_over F laws (sparing F W) v (copy0 F a) r f0 n (done n h).0)
            ∙ ap (λ (l : List ℕ). over r (copy0 F a) ++ l)
            (all_over F laws (sparing F W) v (copy1 F a) r f1 (n - length (into0 F W a r)) (done n h).1);
      }
