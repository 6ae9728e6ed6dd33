-- One copy: untouched, unsound or written, wherever a write of it is cut. Assumes nothing.
use mathlib.Core.Path.{◌≡◌, refl, sym, ap, ◌∙◌}
use mathlib.Core.Logic.{◌⊎◌, inl, inr, ⊎_elim}
use mathlib.Core.Bool.{Bool, true, false}
use mathlib.Core.List.{List, [], ◌∷◌, ◌++◌}
use Prim.Native.Nat.{ℕ, zero, suc, ◌≤◌, ◌<◌}
use native.Mathlib.Omega.{arith}
use lib.ListN.{length, take, drop, get_or, take-append-drop}
use lib.Seq.{take_all, take-append_seam, drop-append_seam}
use Rattle.fields.specs.Guid.{same}
use Rattle.fields.proofs.Guid.{same_true}
use Rattle.proof_format_cuts.specs.Area.{after_stores, after_cut}
use Rattle.proof_format_cuts.specs.Format.{Format, FormatLaws, Writer, WriterLaws, Writable, record_of, sound_copy, over, StoresInside}
use Rattle.proof_format_cuts.specs.Theorem.{sparing}
use Rattle.proof_format_cuts.proofs.Runs.{inside_take, inside_more, stores_length}

-- the copy is sound and holds the record r
pub record Holds (F : Format) (r c : List ℕ) : Type 0 where
  pub good : sound_copy F c ≡ true
  pub is : record_of F c ≡ r

pub holds_sound : (F : Format) (r c : List ℕ) → Holds F r c → F.sound r ≡ true
unfolding sound_copy
holds_sound F r c h = ap F.sound (sym h.is) ∙ h.good

take_zero : (n : ℕ) (c : List ℕ) (i : ℕ) → get_or c i 0 ≡ 0 → get_or (take n c) i 0 ≡ 0
take_zero zero c i h = refl
take_zero (suc n) [] i h = refl
take_zero (suc n) (x ∷ xs) zero h = h
take_zero (suc n) (x ∷ xs) (suc i) h = take_zero n xs i h

module _ (F : Format) (laws : FormatLaws F) where
  -- while the version's low byte is 0 the copy is unsound, whatever its checksum says
  unsound_zero : (c : List ℕ) → get_or c F.version_at 0 ≡ 0 → sound_copy F c ≡ false
  unfolding sound_copy record_of
  unsound_zero c z = go (sound_copy F c) refl
    where
      go : (t : Bool) → sound_copy F c ≡ t → t ≡ false
      go true e = absurd (laws.version_marks (record_of F c) e (take_zero (F.size_of c) c F.version_at z))
      go false e = refl

  -- a copy that starts with a sound record holds it
  pub starts_holds : (r t : List ℕ) → F.sound r ≡ true → Holds F r (r ++ t)
  unfolding sound_copy record_of
  starts_holds r t h =
      let e : record_of F (r ++ t) ≡ r = ap (λ (k : ℕ). take k (r ++ t)) (laws.size_told r t h) ∙ take-append_seam r t in
      record { good = ap F.sound e ∙ h; is = e }

-- a copy whose record is r has it in front of its tail already
held_over : (F : Format) (c r : List ℕ) → record_of F c ≡ r → c ≡ over r c
unfolding record_of
held_over F c r e =
    let p : c ≡ r ++ drop (F.size_of c) c = sym (ap (λ (l : List ℕ). l ++ drop (F.size_of c) c) (sym e) ∙ take-append-drop (F.size_of c) c) in
    let q : drop (length r) c ≡ drop (F.size_of c) c = ap (drop (length r)) p ∙ drop-append_seam r (drop (F.size_of c) c) in
    p ∙ ap (λ (l : List ℕ). r ++ l) (sym q)

-- a writer that spares the copies which hold the record already keeps the laws
module _ (F : Format) (W : Writer) where
  spares : (c r : List ℕ) → ((sparing F W c r ≡ []) × (record_of F c ≡ r)) ⊎ (sparing F W c r ≡ W c r)
  unfolding sparing
  spares c r = go (same (record_of F c) r) refl
    where
      go : (t : Bool) → same (record_of F c) r ≡ t → ((sparing F W c r ≡ []) × (record_of F c ≡ r)) ⊎ (sparing F W c r ≡ W c r)
      go true e = inl (rw e, same_true (record_of F c) r e)
      go false e = inr (rw e)

  pub sparing_writes : WriterLaws F W → WriterLaws F (sparing F W)
  unfolding after_stores
  sparing_writes w =
      record {
        inside = λ c r f. ⊎_elim (λ p. rw p.0 tt) (λ p. rw p (w.inside c r f)) (spares c r);
        between = λ c r n f lo hi.
            ⊎_elim (λ p. absurd (omega (arith, ap length p.0))) (λ p. rw p (w.between c r n f lo (rw p at hi))) (spares c r);
        ends = λ c r f. ⊎_elim (λ p. rw p.0 (held_over F c r p.1)) (λ p. rw p (w.ends c r f)) (spares c r);
      }

-- a write of r over c, cut after n of its stores
module _ (F : Format) (laws : FormatLaws F) (W : Writer) (w : WriterLaws F W) (c r : List ℕ) (f : Writable F c r) where
  pub in_copy : StoresInside (length c) (W c r)
  in_copy = rw f.long (inside_more (length r) F.copy_size (W c r) (laws.fits r f.is_sound) (w.inside c r f))

  pub part_length : (n : ℕ) → length (after_stores c (take n (W c r))) ≡ F.copy_size
  part_length n = stores_length c (take n (W c r)) (inside_take (length c) n (W c r) in_copy) ∙ f.long

  -- before the last of them the copy is as it was, or unsound
  pub part : (n : ℕ) → n < length (W c r) → (after_stores c (take n (W c r)) ≡ c) ⊎ (sound_copy F (after_stores c (take n (W c r))) ≡ false)
  unfolding after_cut
  part zero h = unfold after_stores in inl refl
  part (suc n) h = inr (unsound_zero F laws (after_stores c (take (suc n) (W c r))) (w.between c r (suc n) f (omega arith) h))

  -- after all of them the record is there, in front of the old tail
  pub all_over : (n : ℕ) → length (W c r) ≤ n → after_stores c (take n (W c r)) ≡ over r c
  all_over n h = ap (after_stores c) (take_all n (W c r) h) ∙ w.ends c r f

  pub all_holds : (n : ℕ) → length (W c r) ≤ n → Holds F r (after_stores c (take n (W c r)))
  all_holds n h = rw (all_over n h) (starts_holds F laws r (drop (length r) c) f.is_sound)
