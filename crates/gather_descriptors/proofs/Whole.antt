-- What a reading says of its list, the laws of specs/Law.antt, and how the reader's answer tells the reading. Assumes
-- nothing.
use mathlib.Core.Path.{◌≡◌, refl, sym, ap, subst, ◌∙◌}
use mathlib.Core.Bool.{Bool, true, false, cond, and-false}
use mathlib.Core.List.{List, [], ◌∷◌}
use mathlib.Core.Logic.{◌⊎◌, inl, inr, ⊎_elim}
use Prim.Native.Nat.{ℕ, zero, suc, ◌+◌, ◌-◌, ◌^◌, ◌%◌, ◌<◌, ◌≤◌}
use native.Mathlib.Omega.{arith}
use borrow.Author.Tests.{ltb-true, ltb-false, lt-ltb, le-ltb, leb-true, leb-false, le-leb, lt-leb, eqb-true, eqb-false, eq-eqb, ne_eqb}
use lib.Dec.{leb, eqb}
use lib.ListN.{length, get_or, take}
use Rattle.fields.proofs.Tests.{positive, no_true, le_or_lt}
use Rattle.std.specs.Prelude.{Ok, Err}
use Rattle.refusals.specs.Number.{number_of}
use Rattle.refusals.specs.declared.Refusal.{Refusal}
use Rattle.refusals.specs.declared.Refusal.TheVariants.{WindowEnd, DescriptorCount, DescriptorAddress, BlockOutside, TotalLength}
use Rattle.gather_window.specs.Window.{past_window_end, within, descriptor_fits}
use Rattle.gather_descriptors.specs.Reading.{Reading, refused, whole, with_descriptor, length_of, address_of, jump_or_end, data_block}
use Rattle.gather_descriptors.specs.Reading.{walk, reading, descriptor_limit, total_limit}
use Rattle.gather_descriptors.specs.Law.{Inside, Outside, Link, past_block, by_jump, Links, none, more, Chain, link, end, Placed}
use Rattle.gather_descriptors.specs.Law.{Faultless, Fault, too_many, unaligned, not_inside, block_outside, total_passed, FirstFault}
use Rattle.gather_descriptors.specs.Law.{past_end, behind, ComesBack, ReadingLaws}
use Rattle.gather_descriptors.specs.Scratch.{ScratchHolds, AllReadable, lengths}
use Rattle.gather_descriptors.specs.declared.Listed.{Listed}
use Rattle.gather_descriptors.proofs.Steps.{rest, walk_more, within_ends, within_of, descriptor_ends, descriptor_aligned, fits_of}

-- ---- the tests, as facts
outside_of : (w : List ℕ) (B a n : ℕ) → within B (length w) a n ≡ false → Outside w B a n
outside_of w B a n e =
    ⊎_elim
    (λ low. ⊎_elim (λ high. absurd (no_true (sym e ∙ within_of B (length w) a n low high))) (λ h. inr (omega arith))
    (le_or_lt (a + n) (B + length w)))
    (λ h. inl (omega arith))
    (le_or_lt B a)

not_within : (w : List ℕ) (B a n : ℕ) → Outside w B a n → within B (length w) a n ≡ false
unfolding within
not_within w B a n (inl h) = rw (lt-leb B a h)
not_within w B a n (inr h) = simp (lt-leb (a + n) (B + length w) h, and-false)

not_both : (w : List ℕ) (B a n : ℕ) → Outside w B a n → Inside w B a n → ⊥
not_both w B a n (inl h) i = omega (arith, i.0)
not_both w B a n (inr h) i = omega (arith, i.1)

placed_fits : {w : List ℕ} {B : ℕ} {ds : List ℕ} → Placed w B ds → (i : ℕ) → i < length ds
    → descriptor_fits B (length w) (get_or ds i 0) ≡ true
placed_fits {w} {B} {ds} p i lt = fits_of B (length w) (get_or ds i 0) (p.aligned i lt) (p.inside i lt).0 (p.inside i lt).1

placed_none : {w : List ℕ} {B : ℕ} → Placed w B []
placed_none =
    record { aligned = λ i lt. absurd (omega arith); inside = λ i lt. absurd (omega arith); blocks = λ i lt. absurd (omega arith) }

placed_tail : {w : List ℕ} {B d : ℕ} {ds : List ℕ} → Placed w B (d ∷ ds) → Placed w B ds
placed_tail p =
    record {
      aligned = λ i lt. p.aligned (suc i) (omega arith);
      inside = λ i lt. p.inside (suc i) (omega arith);
      blocks = λ i lt. p.blocks (suc i) (omega arith);
    }

-- what holds of d and of each of ds holds of each of both
each_cons : (P : ℕ → Type 0) (d : ℕ) (ds : List ℕ) → P d → ((i : ℕ) → i < length ds → P (get_or ds i 0)) → (i : ℕ) → i < length (d ∷ ds)
    → P (get_or (d ∷ ds) i 0)
each_cons P d ds h hs zero lt = h
each_cons P d ds h hs (suc i) lt = hs i (omega arith)

by_cond : (P : Reading → Type 0) (b : Bool) (x y : Reading) → (b ≡ true → P x) → (b ≡ false → P y) → P (cond b x y)
by_cond P true x y f g = f refl
by_cond P false x y f g = g refl

-- ---- what a walk from a on found, behind k descriptors with the total t: a list read whole, or the first fault
record Walked (w : List ℕ) (B k a t T : ℕ) (ds : List ℕ) : Type 0 where
  chain : Chain w B a ds
  placed : Placed w B ds
  count : k + length ds ≤ descriptor_limit
  total : T ≡ t + lengths w B ds
  limit : T ≤ total_limit

record Stopped (w : List ℕ) (B k a t : ℕ) (n : Refusal) : Type 0 where
  ds : List ℕ
  next : ℕ
  links : Links w B a ds next
  placed : Placed w B ds
  count : k + length ds ≤ descriptor_limit
  limit : t + lengths w B ds ≤ total_limit
  fault : Fault w B (k + length ds) (t + lengths w B ds) next n

Good : List ℕ → ℕ → ℕ → ℕ → ℕ → Reading → Type 0
Good w B k a t (refused n) = Stopped w B k a t n
Good w B k a t (whole T ds) = Walked w B k a t T ds

module _ (w : List ℕ) (B k a t : ℕ) (small : t ≤ total_limit) where
  -- the fault of the descriptor at a itself
  stopped_here : {n : Refusal} → k ≤ descriptor_limit → Fault w B k t a n → Stopped w B k a t n
  unfolding lengths
  stopped_here few f =
      let n0 : k + 0 ≡ k = omega arith in
      let t0 : t + 0 ≡ t = omega arith in
      record { ds = []; next = a; links = none; placed = placed_none; count = omega arith; limit = omega arith; fault = rw (n0, t0) f }

  misplaced : k < descriptor_limit → descriptor_fits B (length w) a ≡ false → Fault w B k t a DescriptorAddress
  unfolding descriptor_fits
  misplaced few e =
      ⊎_elim
      (λ z. not_inside (omega arith) (outside_of w B a 16 (rw (eq-eqb (a % 8) 0 (omega arith)) at e)))
      (λ h. unaligned (omega arith) h)
      (le_or_lt (a % 8) 0)

  -- past the address test
  module _ (few : k < descriptor_limit) (fit : descriptor_fits B (length w) a ≡ true) where
    placed_cons : (ds : List ℕ) → (0 < length_of w B a → within B (length w) (address_of w B a) (length_of w B a) ≡ true) → Placed w B ds
        → Placed w B (a ∷ ds)
    placed_cons ds b p =
        record {
          aligned = each_cons (λ (x : ℕ). x % 8 ≡ 0) a ds (descriptor_aligned B (length w) a fit) p.aligned;
          inside = each_cons (λ (x : ℕ). Inside w B x 16) a ds (descriptor_ends B (length w) a fit) p.inside;
          blocks = each_cons (λ (x : ℕ). 0 < length_of w B x → Inside w B (address_of w B x) (length_of w B x)) a ds
              (λ lt. within_ends B (length w) (address_of w B a) (length_of w B a) (b lt)) p.blocks;
        }

    ended : length_of w B a ≡ 0 → address_of w B a ≡ 0 → Walked w B k a t t (a ∷ [])
    unfolding lengths
    ended z f =
        record {
          chain = end z f;
          placed = placed_cons [] (λ lt. absurd (omega arith)) placed_none;
          count = omega arith;
          total = omega arith;
          limit = small;
        }

    -- one descriptor more in front of what was read on at b
    one_more : (b s : ℕ) → Link w B a b → (0 < length_of w B a → within B (length w) (address_of w B a) (length_of w B a) ≡ true)
        → s ≡ t + length_of w B a
        → (X : Reading) → Good w B (k + 1) b s X → Good w B k a t (with_descriptor a X)
    unfolding Good with_descriptor lengths
    one_more b s l fits sum (refused n) g =
        let m : k + 1 + length g.ds ≡ k + length (a ∷ g.ds) = omega arith in
        let u : s + lengths w B g.ds ≡ t + (length_of w B a + lengths w B g.ds) = omega arith in
        record {
          ds = a ∷ g.ds;
          next = g.next;
          links = more l g.links;
          placed = placed_cons g.ds fits g.placed;
          count = omega (arith, g.count);
          limit = omega (arith, g.limit);
          fault = rw (m, u) at g.fault;
        }
    one_more b s l fits sum (whole T ds) g =
        record {
          chain = link l g.chain;
          placed = placed_cons ds fits g.placed;
          count = omega (arith, g.count);
          total = omega (arith, g.total);
          limit = g.limit;
        }

    -- what follows, if whatever is read on is good
    good_rest : (l : ℕ) → ((b s : ℕ) → s ≤ total_limit → Good w B (k + 1) b s (walk l w B b s))
        → Good w B k a t (with_descriptor a (rest l w B a t (length_of w B a) (address_of w B a)))
    unfolding jump_or_end data_block Good with_descriptor
    good_rest l on =
        let len = length_of w B a in
        let adr = address_of w B a in
        let next : ℕ → Reading = λ s. walk l w B (a + 16) s in
        let low = descriptor_aligned B (length w) a fit in
        let ends = descriptor_ends B (length w) a fit in
        let P : Reading → Type 0 = λ X. Good w B k a t (with_descriptor a X) in
        by_cond P (eqb len 0) (jump_or_end adr t (λ b. walk l w B b t)) (data_block B (length w) adr len t next)
        (λ e.
        let z = eqb-true len 0 e in
        by_cond P (eqb adr 0) (whole t []) (walk l w B adr t)
        (λ f. ended z (eqb-true adr 0 f))
        (λ f. one_more adr t (by_jump z (positive adr (eqb-false adr 0 f)) refl) (λ lt. absurd (omega arith)) (omega arith)
        (walk l w B adr t) (on adr t small)))
        (λ e.
        let some = positive len (eqb-false len 0 e) in
        by_cond P (within B (length w) adr len) (cond (leb (t + len) total_limit) (next (t + len)) (refused TotalLength))
        (refused BlockOutside)
        (λ i.
        by_cond P (leb (t + len) total_limit) (next (t + len)) (refused TotalLength)
        (λ f. one_more (a + 16) (t + len) (past_block some refl) (λ lt. i) refl (next (t + len))
        (on (a + 16) (t + len) (leb-true (t + len) total_limit f)))
        (λ f. stopped_here (omega arith) (total_passed few low ends some (within_ends B (length w) adr len i)
        (leb-false (t + len) total_limit f))))
        (λ o. stopped_here (omega arith) (block_outside few low ends some (outside_of w B adr len o))))

good_walk : (l k : ℕ) (w : List ℕ) (B a t : ℕ) → l + k ≡ descriptor_limit → t ≤ total_limit → Good w B k a t (walk l w B a t)
unfolding walk Good
good_walk zero k w B a t sum small = stopped_here w B k a t small (omega arith) (too_many (omega arith))
good_walk (suc l) k w B a t sum small =
    by_cond (Good w B k a t) (descriptor_fits B (length w) a) (with_descriptor a (rest l w B a t (length_of w B a) (address_of w B a)))
    (refused DescriptorAddress)
    (λ e. good_rest w B k a t small (omega arith) e l (λ b s h. good_walk l (k + 1) w B b s (omega arith) h))
    (λ e. stopped_here w B k a t small (omega arith) (misplaced w B k a t small (omega arith) e))

-- ---- and back: what a walk makes of a faultless beginning
link_walk : (w : List ℕ) (B l a b t : ℕ) (ds : List ℕ) → (l ≡ 0 → ⊥) → Placed w B (a ∷ ds) → t + length_of w B a ≤ total_limit
    → Link w B a b
    → walk l w B a t ≡ with_descriptor a (walk (l - 1) w B b (t + length_of w B a))
unfolding jump_or_end data_block
link_walk w B l a b t ds some p small (past_block len e) =
    rw (
      walk_more l w B a t some,
      placed_fits p 0 (omega arith),
      ne_eqb (length_of w B a) 0 (λ z. absurd (omega arith)),
      within_of B (length w) (address_of w B a) (length_of w B a) (p.blocks 0 (omega arith) len).0 (p.blocks 0 (omega arith) len).1,
      le-leb (t + length_of w B a) total_limit small,
      e,
    )
link_walk w B l a b t ds some p small (by_jump len adr e) =
    let sum : t + length_of w B a ≡ t = omega arith in
    rw (
      sum,
      walk_more l w B a t some,
      placed_fits p 0 (omega arith),
      eq-eqb (length_of w B a) 0 len,
      ne_eqb (address_of w B a) 0 (λ z. absurd (omega arith)),
      e,
    )

chain_walk : (w : List ℕ) (B l a t : ℕ) (ds : List ℕ) → Chain w B a ds → Placed w B ds → length ds ≤ l → t + lengths w B ds ≤ total_limit
    → walk l w B a t ≡ whole (t + lengths w B ds) ds
unfolding lengths jump_or_end with_descriptor
chain_walk w B l a t ds (link {b = b} {ds = on} x c) p count small =
    let sum : t + length_of w B a + lengths w B on ≡ t + (length_of w B a + lengths w B on) = omega arith in
    rw (
      link_walk w B l a b t on (λ z. absurd (omega arith)) p (omega arith) x,
      chain_walk w B (l - 1) b (t + length_of w B a) on c (placed_tail p) (omega arith) (omega arith),
      sum,
    )
chain_walk w B l a t ds (end len adr) p count small =
    let sum : t + (length_of w B a + 0) ≡ t = omega arith in
    rw (
      walk_more l w B a t (λ z. absurd (omega arith)),
      placed_fits p 0 (omega arith),
      eq-eqb (length_of w B a) 0 len,
      eq-eqb (address_of w B a) 0 adr,
      sum,
    )

links_walk : (w : List ℕ) (B l a b t : ℕ) (ds : List ℕ) (n : Refusal) → Links w B a ds b → Placed w B ds → length ds ≤ l
    → t + lengths w B ds ≤ total_limit
    → walk (l - length ds) w B b (t + lengths w B ds) ≡ refused n → walk l w B a t ≡ refused n
unfolding lengths with_descriptor
links_walk w B l a b t ds n none p count small e =
    let z : l - 0 ≡ l = omega arith in
    let s : t + 0 ≡ t = omega arith in
    rw (z, s) at e
links_walk w B l a b t ds n (more {c = c} {ds = on} x ls) p count small e =
    let z : l - length (a ∷ on) ≡ l - 1 - length on = omega arith in
    let s : t + (length_of w B a + lengths w B on) ≡ t + length_of w B a + lengths w B on = omega arith in
    rw (
      link_walk w B l a c t on (λ z. absurd (omega arith)) p (omega arith) x,
      links_walk w B (l - 1) c b (t + length_of w B a) on n ls (placed_tail p) (omega arith) (omega arith) (rw (z, s) at e),
    )

fault_walk : (w : List ℕ) (B l k t a : ℕ) (n : Refusal) → l + k ≡ descriptor_limit → Fault w B k t a n → walk l w B a t ≡ refused n
unfolding walk descriptor_fits data_block with_descriptor
fault_walk w B l k t a n sum (too_many e) = let z : l ≡ 0 = omega arith in rw z
fault_walk w B l k t a n sum (unaligned few h) = rw
    (walk_more l w B a t (λ z. absurd (omega arith)), ne_eqb (a % 8) 0 (λ z. absurd (omega arith)))
fault_walk w B l k t a n sum (not_inside few o) = rw (walk_more l w B a t (λ z. absurd (omega arith)))
    (simp (not_within w B a 16 o, and-false))
fault_walk w B l k t a n sum (block_outside few low ends some o) =
    rw (
      walk_more l w B a t (λ z. absurd (omega arith)),
      fits_of B (length w) a low ends.0 ends.1,
      ne_eqb (length_of w B a) 0 (λ z. absurd (omega arith)),
      not_within w B (address_of w B a) (length_of w B a) o,
    )
fault_walk w B l k t a n sum (total_passed few low ends some i high) =
    rw (
      walk_more l w B a t (λ z. absurd (omega arith)),
      fits_of B (length w) a low ends.0 ends.1,
      ne_eqb (length_of w B a) 0 (λ z. absurd (omega arith)),
      within_of B (length w) (address_of w B a) (length_of w B a) i.0 i.1,
      lt-leb (t + length_of w B a) total_limit high,
    )

-- ---- the laws, but for the loop
module _ (w : List ℕ) (B first : ℕ) where
  Means : Reading → Type 0
  Means (refused n) = FirstFault w B first n
  Means (whole t ds) = Faultless w B first ds × (t ≡ lengths w B ds)

  means_good : B + length w ≤ 2 ^ 64 → (X : Reading) → Good w B 0 first 0 X → Means X
  unfolding Good Means
  means_good h (refused n) g =
      let z : 0 + length g.ds ≡ length g.ds = omega arith in
      let s : 0 + lengths w B g.ds ≡ lengths w B g.ds = omega arith in
      behind g.ds g.next
      (record { window = h; links = g.links; placed = g.placed; count = omega (arith, g.count); total = omega (arith, g.limit) })
      (rw (z, s) at g.fault)
  means_good h (whole t ds) g = (
    record { window = h; chain = g.chain; placed = g.placed; count = omega (arith, g.count); total = omega (arith, g.total, g.limit) },
    omega (arith, g.total),
  )

  means : Means (reading w B first)
  unfolding reading Means
  means =
      by_cond Means (past_window_end B (length w)) (refused WindowEnd) (walk 256 w B first 0)
      (λ e. past_end (ltb-true (2 ^ 64) (B + length w) e))
      (λ e. means_good (ltb-false (2 ^ 64) (B + length w) e) (walk 256 w B first 0)
      (good_walk 256 0 w B first 0 (omega arith) (omega arith)))

  pub whole_law : (t : ℕ) (ds : List ℕ) → reading w B first ≡ whole t ds → Faultless w B first ds × (t ≡ lengths w B ds)
  unfolding Means
  whole_law t ds e = subst Means e means

  pub fault_law : (n : Refusal) → reading w B first ≡ refused n → FirstFault w B first n
  unfolding Means
  fault_law n e = subst Means e means

  pub law_whole : (ds : List ℕ) → Faultless w B first ds → reading w B first ≡ whole (lengths w B ds) ds
  unfolding reading
  law_whole ds f =
      let z : 0 + lengths w B ds ≡ lengths w B ds = omega arith in
      rw (le-ltb (2 ^ 64) (B + length w) f.window)
      (rw z at (chain_walk w B 256 first 0 ds f.chain f.placed f.count (omega (arith, f.total))))

  pub law_fault : (n : Refusal) → FirstFault w B first n → reading w B first ≡ refused n
  unfolding reading
  law_fault n (past_end h) = rw (lt-ltb (2 ^ 64) (B + length w) h)
  law_fault n (behind ds next b f) =
      let z : 0 + lengths w B ds ≡ lengths w B ds = omega arith in
      rw (le-ltb (2 ^ 64) (B + length w) b.window)
      (links_walk w B 256 first next 0 ds n b.links b.placed b.count (omega (arith, b.total))
      (rw z (fault_walk w B (256 - length ds) (length ds) (lengths w B ds) next n (omega (arith, b.count)) f)))

-- ---- a list that comes back to one of its descriptors
abbrev Member : ℕ → List ℕ → Type 0
Member x ds = (i : ℕ) × (i < length ds) × (get_or ds i 0 ≡ x)

first_is : (P : ℕ → Type 0) {w : List ℕ} {B a b : ℕ} {ds : List ℕ} → Links w B a ds b → ((i : ℕ) → i < length ds → P (get_or ds i 0))
    → P b → P a
first_is P none each last = last
first_is P (more x ls) each last = each 0 (omega arith)

follows : (P : ℕ → Type 0) {w : List ℕ} {B a b : ℕ} {ds : List ℕ} → Links w B a ds b → ((i : ℕ) → i < length ds → P (get_or ds i 0)) → P b
    → (i : ℕ) → i < length ds → (y : ℕ) × Link w B (get_or ds i 0) y × P y
follows P none each last i lt = absurd (omega arith)
follows P (more {c = c} x ls) each last zero lt = (c, x, first_is P ls (λ i h. each (suc i) (omega arith)) last)
follows P (more x ls) each last (suc i) lt = follows P ls (λ j h. each (suc j) (omega arith)) last i (omega arith)

same_link : {w : List ℕ} {B a x y : ℕ} → Link w B a x → Link w B a y → x ≡ y
same_link (past_block some e) (past_block some' f) = e ∙ sym f
same_link (past_block some e) (by_jump z some' f) = absurd (omega arith)
same_link (by_jump z some e) (past_block some' f) = absurd (omega arith)
same_link (by_jump z some e) (by_jump z' some' f) = e ∙ sym f

no_link : {w : List ℕ} {B a x : ℕ} → Link w B a x → length_of w B a ≡ 0 → address_of w B a ≡ 0 → ⊥
no_link (past_block some e) z f = omega arith
no_link (by_jump l some e) z f = omega arith

module _ (w : List ℕ) (B first : ℕ) (k : ComesBack w B first) where
  In : ℕ → Type 0
  In x = Member x k.descriptors

  each_in : (i : ℕ) → i < length k.descriptors → In (get_or k.descriptors i 0)
  unfolding In
  each_in i lt = (i, lt, refl)

  leads_on : (x : ℕ) → In x → (y : ℕ) × Link w B x y × In y
  unfolding In
  leads_on x m =
      subst (λ (z : ℕ). (y : ℕ) × Link w B z y × In y) m.2 (follows In k.links each_in (each_in k.i k.among) m.0 m.1)

  stays : (x y : ℕ) → In x → Link w B x y → In y
  stays x y m l = let f = leads_on x m in subst In (same_link f.1 l) f.2

  arrives : {a b : ℕ} {ds : List ℕ} → In a → Links w B a ds b → In b
  arrives m none = m
  arrives {a} m (more {c = c} l ls) = arrives (stays a c m l) ls

  endless : {a : ℕ} {ds : List ℕ} → In a → Chain w B a ds → ⊥
  endless {a} m (link {b = b} l c) = endless (stays a b m l) c
  endless {a} m (end z f) = no_link (leads_on a m).1 z f

  first_in : In first
  first_in = first_is In k.links each_in (each_in k.i k.among)

  TwoOrFive : Refusal → Type 0
  TwoOrFive n = (n ≡ DescriptorCount) ⊎ (n ≡ TotalLength)

  -- the descriptor at x is one of those of the list
  no_other : (read total x : ℕ) (n : Refusal) → In x → Fault w B read total x n → TwoOrFive n
  unfolding In TwoOrFive
  no_other read total x n m (too_many e) = inl refl
  no_other read total x n m (unaligned few h) = absurd (omega (arith, rw m.2 at (k.placed.aligned m.0 m.1)))
  no_other read total x n m (not_inside few o) =
      absurd (not_both w B x 16 o (rw m.2 at (k.placed.inside m.0 m.1)))
  no_other read total x n m (block_outside few low ends some o) =
      absurd (not_both w B (address_of w B x) (length_of w B x) o ((rw m.2 at (k.placed.blocks m.0 m.1)) some))
  no_other read total x n m (total_passed few low ends some i high) = inr refl

  by_fault : (n : Refusal) → FirstFault w B first n → TwoOrFive n
  by_fault n (past_end h) = absurd (omega (arith, k.window))
  by_fault n (behind ds next b f) = no_other (length ds) (lengths w B ds) next n (arrives first_in b.links) f

  loop_of : (X : Reading) → reading w B first ≡ X
      → (reading w B first ≡ refused DescriptorCount) ⊎ (reading w B first ≡ refused TotalLength)
  unfolding TwoOrFive
  loop_of (whole t ds) e = absurd (endless first_in (whole_law w B first t ds e).0.chain)
  loop_of (refused n) e = ⊎_elim (λ q. inl (e ∙ ap refused q)) (λ q. inr (e ∙ ap refused q)) (by_fault n (fault_law w B first n e))

  pub loop_law : (reading w B first ≡ refused DescriptorCount) ⊎ (reading w B first ≡ refused TotalLength)
  loop_law = loop_of (reading w B first) refl

pub reading_laws : (w : List ℕ) (B first : ℕ) → ReadingLaws w B first
reading_laws w B first =
    record {
      whole_only = whole_law w B first;
      whole_there = law_whole w B first;
      refused_only = fault_law w B first;
      refused_there = law_fault w B first;
      loop = loop_law w B first;
    }

-- what the crates above go on from
pub record Found (w : List ℕ) (B t : ℕ) (ds : List ℕ) : Type 0 where
  pub below : B + length w ≤ 2 ^ 64
  pub readable : AllReadable w B ds
  pub total : t ≡ lengths w B ds

pub found : (w : List ℕ) (B a t : ℕ) (ds : List ℕ) → reading w B a ≡ whole t ds → Found w B t ds
found w B a t ds e =
    let h = whole_law w B a t ds e in
    let f = h.0 in
    record {
      below = f.window;
      readable = λ i lt. record { low = (f.placed.inside i lt).0; high = (f.placed.inside i lt).1; block = f.placed.blocks i lt };
      total = h.1;
    }

-- a list is refused by the numbers 1 to 5 alone
pub refused_early : (w : List ℕ) (B a : ℕ) (n : Refusal) → reading w B a ≡ refused n → number_of n ≤ 5
refused_early w B a n e = go (fault_law w B a n e)
  where
    by_fault : {read total d : ℕ} {n : Refusal} → Fault w B read total d n → number_of n ≤ 5
    by_fault (too_many _) = omega arith
    by_fault (unaligned _ _) = omega arith
    by_fault (not_inside _ _) = omega arith
    by_fault (block_outside _ _ _ _ _) = omega arith
    by_fault (total_passed _ _ _ _ _ _) = omega arith

    go : {n : Refusal} → FirstFault w B a n → number_of n ≤ 5
    go (past_end _) = omega arith
    go (behind _ _ _ f) = by_fault f

-- the answer and the array decide the reading
pub was_refused : (X : Reading) (k : ℕ) (old new : List ℕ) (n : Refusal) → ScratchHolds X k old new (Err n) → X ≡ refused n
unfolding ScratchHolds
was_refused (refused m) k old new n h = cc
was_refused (whole t ds) k old new n h = let z = h.0 in cc

pub was_whole : (X : Reading) (old new : List ℕ) (l : Listed) → ScratchHolds X 0 old new (Ok l)
    → (X ≡ whole l.total (take l.count new)) × (l.count ≡ length (take l.count new)) × (length new ≡ length old)
unfolding ScratchHolds
was_whole (refused m) old new l h = cc
was_whole (whole T ds) old new l h =
    let z = h.0 in
    let en : 0 + length ds ≡ l.count = cc in
    let et : T ≡ l.total = cc in
    let ed : take l.count new ≡ ds = rw en at h.1 in
    (rw (et, ed), rw ed (omega arith), h.2)
