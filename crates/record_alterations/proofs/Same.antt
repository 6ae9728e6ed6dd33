-- Whether two lists of whole words are the same, word by word, and what `(1..n).all(f)` answers where f compares word k
-- of the one with that of the other. Assumes nothing.
use Rattle.std.proofs.Common.{◌≡◌, sym, ap, ◌∙◌, refl, Bool, true, false, eqb, ℕ, ◌+◌, ◌-◌, ◌*◌, ◌/◌, ◌≤◌, ◌<◌, List, length, arith, Option}
use Rattle.std.specs.Bool.{MatchBool}
use Rattle.std.specs.Fn.{Called}
use Rattle.std.specs.Iterator.{YieldsThen}
use Rattle.std.specs.List.{FoldsTo, AllWithin, HoldsAt, range_with_len}
use Rattle.std.specs.Option.{MatchOption}
use Rattle.std.specs.declared.ops.Range.{Range}
use Rattle.std.proofs.iter.Yields.{nat_range_steps}
use Rattle.std.proofs.lemmas.Bool.{MatchBool-at_true, MatchBool-at_false, eqb-true, eqb-false}
use Rattle.std.proofs.lemmas.Iterator.{cases_from_all, YieldsList-from_range}
use Rattle.std.proofs.lemmas.List.FromFn.{length-range_with_len, get_or-range_with_len}
use denote.Param.Members.{Mut}
use mathlib.Core.Logic.{⊎_elim}
use Rattle.fields.specs.Guid.{same}
use Rattle.fields.specs.Number.{Bytes, le}
use Rattle.fields.proofs.Bytes.{words_same}
use Rattle.fields.proofs.Guid.{same_refl, same_false}
use Rattle.fields.proofs.Tests.{le_or_lt}

-- one word that differs
word_other : (x y : List ℕ) (o : ℕ) → (le 4 x o ≡ le 4 y o → ⊥) → same x y ≡ false
word_other x y o other = same_false x y (λ e. other (ap (λ (l : List ℕ). le 4 l o) e))

-- ran is the call's clause; each call of f at k compares the words there and leaves f as it was
module _ {F : Type 0} {g : Mut F (ℕ × Unit {0}) Bool} {s u : Range ℕ} {f : F} {r : Bool} (x y : List ℕ)
    (ran : (xs : List ℕ) × (o : Option ℕ) × (j : F) × YieldsThen nat_range_steps s xs o u
    × FoldsTo (λ q k t. Called g q (k, tt) true t) f xs j
    × MatchOption o (r ≡ true) (λ k. (r ≡ false) × ((h : F) × Called g j (k, tt) false h)))
    (ends : (s.start ≡ 1) × (s.end ≡ length x / 4))
    (calls : (k : ℕ) (t : Bool) (q : F) → Called g f (k, tt) t q → (q ≡ f) × (t ≡ eqb (le 4 x (4 * k)) (le 4 y (4 * k)))) where
  abbrev at : ℕ → Bool
  at k = eqb (le 4 x (4 * k)) (le 4 y (4 * k))

  abbrev ks : List ℕ
  ks = range_with_len s.start (s.end - s.start)

  cases : MatchBool r (AllWithin (λ k. at k ≡ true) ks 0 (length ks)) ((i : ℕ) × (i < length ks) × HoldsAt (λ k. at k ≡ false) ks i)
  cases =
      cases_from_all u f r (λ k. at k ≡ true) (λ k. at k ≡ false) ran (YieldsList-from_range s.start s.end (s.end - s.start) refl refl)
      (λ k q c. let h = calls k true q c in (h.0, sym h.1))
      (λ k q c. sym (calls k false q c).1)

  all_words : r ≡ true → Bytes x → Bytes y → length x ≡ length y → 4 * (length x / 4) ≡ length x → le 4 x 0 ≡ le 4 y 0 → x ≡ y
  all_words e bx by l whole head =
      let h = MatchBool-at_true _ _ e cases in
      words_same x y bx by l whole (λ o w q. ⊎_elim
      (λ z. let first : o ≡ 0 = omega arith in rw first head)
      (λ z.
      let i = o / 4 - s.start in
      let n = s.end - s.start in
      let k : s.start + i ≡ o / 4 = omega (arith, ends, z, w) in
      let lt : i < n = omega (arith, ends, q, w, k) in
      let v : at (o / 4) ≡ true =
      rw (get_or-range_with_len s.start n i 0 lt, k) at (h i 0 (omega arith) (omega (arith, lt, length-range_with_len s.start n))) in
      rw w at (eqb-true _ _ v))
      (le_or_lt o 3))

  some_word : r ≡ false → (k : ℕ) × (1 ≤ k) × (le 4 x (4 * k) ≡ le 4 y (4 * k) → ⊥)
  some_word e =
      let h = MatchBool-at_false _ _ e cases in
      let lt : h.0 < s.end - s.start = omega (arith, h.1, length-range_with_len s.start (s.end - s.start)) in
      let v : at (s.start + h.0) ≡ false = rw (get_or-range_with_len s.start (s.end - s.start) h.0 0 lt) at (h.2 0) in
      (s.start + h.0, omega (arith, ends), eqb-false _ _ v)

  -- z is y but for its first word
  pub words_tell : (z : List ℕ) → Bytes x → Bytes y → length x ≡ length y → 4 * (length x / 4) ≡ length x → le 4 x 0 ≡ le 4 y 0
      → (x ≡ y → z ≡ x) → ((o : ℕ) → 4 ≤ o → le 4 z o ≡ le 4 y o)
      → r ≡ same x z
  words_tell z bx by l whole head back apart = go r refl
    where
      go : (t : Bool) → r ≡ t → r ≡ same x z
      go true e = rw (e, back (all_words e bx by l whole head)) (sym (same_refl x))
      go false e =
          let k = some_word e in
          e ∙ sym (word_other x z (4 * k.0) (λ q. k.2 (q ∙ apart (4 * k.0) (omega (arith, k.1)))))
