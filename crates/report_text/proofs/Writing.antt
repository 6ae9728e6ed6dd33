-- Texts written into a slice, one behind the other. Assumes nothing.
use mathlib.Core.Path.{◌≡◌, refl, sym, ap, ◌∙◌}
use mathlib.Core.List.{List, [], ◌∷◌, ◌++◌, append-nil}
use Prim.Native.Nat.{ℕ, ◌+◌, ◌≤◌, ◌<◌}
use native.Mathlib.Nat.{add-zero}
use native.Mathlib.Omega.{arith}
use native.Mathlib.Numerals.{add-one}
use lib.ListN.{length, drop, set, get_or, length-set, length-append, take-append-drop}
use lib.Seq.{drop-cons}
use Rattle.std.proofs.lemmas.List.{drop_all}
use Rattle.fields.specs.Number.{put}
use Rattle.fields.proofs.Put.{put_sets, put_more}
use Rattle.report_text.specs.Text.{tab, line_feed, decimal, numbers}
use Rattle.report_text.specs.Wrote.{Room, Wrote}

pub wrote_none : (k : ℕ) (out : List ℕ) → Wrote k k [] out out
unfolding put
wrote_none k out =
    record { count = omega arith; kept = refl; is = sym (rw (append-nil, add-zero) (take-append-drop k out)) }

pub wrote_one : (k x : ℕ) (out : List ℕ) → k < length out → Wrote k (k + 1) (x ∷ []) out (set out k x)
wrote_one k x out h = record { count = refl; kept = length-set out k x; is = put_sets out k (x ∷ []) (omega arith) }

-- one text behind another, where both fit
pub wrote_then : (k m n : ℕ) (t u a b c : List ℕ) → Room k (t ++ u) a → Wrote k m t a b → Wrote m n u b c → Wrote k n (t ++ u) a c
wrote_then k m n t u a b c h p q =
    let l = length-append t u in
    record {
      count = omega (arith, p.count, q.count);
      kept = q.kept ∙ p.kept;
      is =
          q.is
          ∙ ap (λ (s : List ℕ). put s m u) p.is
          ∙ ap (λ (j : ℕ). put (put a k t) j u) p.count
          ∙ put_more a k t u (omega arith);
    }

-- the room that is left behind the first
pub room_first : (k : ℕ) (t u a : List ℕ) → Room k (t ++ u) a → Room k t a
room_first k t u a h = omega (arith, length-append t u)

pub room_then : (k m : ℕ) (t u a b : List ℕ) → Room k (t ++ u) a → Wrote k m t a b → Room m u b
room_then k m t u a b h p = omega (arith, length-append t u, p.count, p.kept)

-- both laws where the two texts have been written: what is known of them tells all but the text that is left
pub and_then : {k m n : ℕ} {t u a b c : List ℕ} → Room k (t ++ u) a → Wrote k m t a b → Wrote m n u b c → Wrote k n (t ++ u) a c
and_then {k} {m} {n} {t} {u} {a} {b} {c} h p q = wrote_then k m n t u a b c h p q

pub room_left : {k m : ℕ} {t a b : List ℕ} (u : List ℕ) → Room k (t ++ u) a → Wrote k m t a b → Room m u b
room_left {k} {m} {t} {a} {b} u h p = room_then k m t u a b h p

-- ---- a loop that writes a text piece by piece: what is left of it fits, and with it the whole is written from k on
pub record Left (k n : ℕ) (left whole before out : List ℕ) : Type 0 where
  pub kept : length out ≡ length before
  pub room : Room n left out
  pub ends : (m : ℕ) (last : List ℕ) → Wrote n m left out last → Wrote k m whole before last

-- at its start
pub left_all : {k : ℕ} {t a : List ℕ} → Room k t a → Left k (k + 0) t t a a
left_all {k} h = rw add-zero (record { kept = refl; room = h; ends = λ m last q. q })

pub left_behind : {k n : ℕ} {t a b : List ℕ} (u : List ℕ) → Room k (t ++ u) a → Wrote k n t a b → Left k n u (t ++ u) a b
left_behind {k} {n} {t} {a} {b} u h p = record { kept = p.kept; room = room_left u h p; ends = λ m last q. and_then h p q }

module _ {k n : ℕ} {left whole before out : List ℕ} (p : Left k n left whole before out) where
  pub left_room : (t u : List ℕ) → left ≡ t ++ u → Room n t out
  left_room t u e = room_first n t u out (rw e at p.room)

  pub left_more : {m : ℕ} {t new : List ℕ} (u : List ℕ) → left ≡ t ++ u → Wrote n m t out new → Left k m u whole before new
  left_more {m} {t} {new} u e q =
      let h : Room n (t ++ u) out = rw e at p.room in
      record {
        kept = q.kept ∙ p.kept;
        room = room_left u h q;
        ends = λ j last w. p.ends j last (rw e (and_then h q w));
      }

-- the bytes of a word from i on: the one at i, and those behind it
pub word_next : (word : List ℕ) (i : ℕ) → i < length word → drop i word ≡ (get_or word i 0 ∷ []) ++ drop (i + 1) word
word_next word i h = rw (drop-cons word i 0 h, add-one)

-- the numbers from i on: the one at i, and those behind it
pub numbers_next : (ns : List ℕ) (i : ℕ) → i < length ns → numbers (drop i ns) ≡ (tab ∷ decimal (get_or ns i 0)) ++ numbers (drop (i + 1) ns)
unfolding numbers
numbers_next ns i h = rw (drop-cons ns i 0 h, add-one)

pub numbers_end : (ns : List ℕ) (i : ℕ) → length ns ≤ i → numbers (drop i ns) ≡ line_feed ∷ []
unfolding numbers
numbers_end ns i h = rw (drop_all i ns h)
