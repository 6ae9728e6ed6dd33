-- The words of an altered record. Assumes nothing.
use mathlib.Core.Path.{◌≡◌, refl, sym, ap, ◌∙◌}
use mathlib.Core.List.{List}
use mathlib.Core.Logic.{◌⊎◌, inl, inr, ⊎_elim}
use Prim.Native.Nat.{ℕ, zero, suc, ◌+◌, ◌*◌, ◌-◌, ◌/◌, ◌%◌, ◌<◌, ◌≤◌}
use native.Mathlib.Omega.{arith}
use lib.ListN.{length, drop}
use Rattle.fields.specs.Number.{Bytes, le, bytes, put}
use Rattle.fields.proofs.Tests.{le_or_lt}
use Rattle.fields.proofs.Put.{read_back}
use Rattle.fields.proofs.Bytes.{bytes_small, put_bytes, word_length, word_apart}
use Rattle.record_crc.specs.Crc.{crc32_of}
use Rattle.record_layout.specs.Layout.{version_at, bank_count, image_count, entry_size, record_size, accepted_at}
use Rattle.record_layout.proofs.Sizes.{header_in}
use Rattle.record_alterations.specs.Fields.{set_active, set_previous, set_accepted, with_crc}
use Rattle.record_alterations.specs.Altered.{flagged, altered_by, record_with, Alterable, Word}
use Rattle.record_alterations.specs.declared.Alteration.{Alteration}
use Rattle.record_alterations.proofs.Places.{words_apart, place_in, place_before, place_apart, place_told, place_of}

-- ---- the words of the header
module _ (active previous states : ℕ) (r : List ℕ) (long : 40 ≤ length r) where
  abbrev one : List ℕ
  one = put r 8 (bytes 4 active)

  abbrev two : List ℕ
  two = put one 12 (bytes 4 previous)

  abbrev three : List ℕ
  three = put two 24 (bytes 4 states)

  one_long : length one ≡ length r
  one_long = word_length r 8 active (omega arith)

  two_long : length two ≡ length r
  two_long = word_length one 12 previous (omega (arith, one_long)) ∙ one_long

  three_long : length three ≡ length r
  three_long = word_length two 24 states (omega (arith, two_long)) ∙ two_long

  three_bytes : Bytes r → Bytes three
  three_bytes b =
      put_bytes two 24 (bytes 4 states)
      (put_bytes one 12 (bytes 4 previous) (put_bytes r 8 (bytes 4 active) b (bytes_small 4 active)) (bytes_small 4 previous))
      (bytes_small 4 states)

  -- a number that stands apart from all three
  three_apart : (n o : ℕ) → (o + n ≤ 8) ⊎ (16 ≤ o) → (o + n ≤ 24) ⊎ (28 ≤ o) → le n three o ≡ le n r o
  three_apart n o p q =
      word_apart two 24 states (omega (arith, two_long)) n o q
      ∙ word_apart one 12 previous (omega (arith, one_long)) n o (⊎_elim (λ h. inl (omega arith)) (λ h. inr h) p)
      ∙ word_apart r 8 active (omega arith) n o (⊎_elim (λ h. inl h) (λ h. inr (omega arith)) p)

  three_active : active < 4294967296 → le 4 three 8 ≡ active
  three_active small =
      word_apart two 24 states (omega (arith, two_long)) 4 8 (inl (omega arith))
      ∙ word_apart one 12 previous (omega (arith, one_long)) 4 8 (inl (omega arith))
      ∙ read_back 4 r 8 active (omega arith) small

  three_previous : previous < 4294967296 → le 4 three 12 ≡ previous
  three_previous small =
      word_apart two 24 states (omega (arith, two_long)) 4 12 (inl (omega arith)) ∙ read_back 4 one 12 previous (omega (arith, one_long))
      small

  three_states : states < 4294967296 → le 4 three 24 ≡ states
  three_states small = read_back 4 two 24 states (omega (arith, two_long)) small

-- ---- the accepted words
module _ (s : List ℕ) (banks images first b flag : ℕ) (long : length s ≡ record_size banks images) (has : le 1 s 32 ≡ banks) (below : b <
    banks) where
  module _ (n : ℕ) (l : length (flagged n first b flag s) ≡ length s) (h : le 1 (flagged n first b flag s) 32 ≡ le 1 s 32) (fits : first
      + suc n ≤ images) where
    -- the next one stands at its place
    next_is : flagged (suc n) first b flag s ≡ put (flagged n first b flag s) (accepted_at banks (first + n) b) (bytes 4 flag)
    unfolding flagged set_accepted le
    next_is = ap (λ (k : ℕ). put (flagged n first b flag s) (accepted_at k (first + n) b) (bytes 4 flag)) (omega (arith, h, has))

    next_in : accepted_at banks (first + n) b + 4 ≤ length (flagged n first b flag s)
    next_in = omega (arith, place_in banks b below images (first + n) (omega arith))

  -- length and header stay
  flagged_kept : (n : ℕ) → first + n ≤ images
      → (length (flagged n first b flag s) ≡ length s) × ((m o : ℕ) → o + m ≤ 40 → le m (flagged n first b flag s) o ≡ le m s o)
  unfolding flagged
  flagged_kept zero fits = (refl, λ m o h. refl)
  flagged_kept (suc n) fits =
      let k = flagged_kept n (omega arith) in
      let e = next_is n k.0 (k.1 1 32 (omega arith)) fits in
      let i = next_in n k.0 (k.1 1 32 (omega arith)) fits in
      let f = flagged n first b flag s in
      let at = accepted_at banks (first + n) b in (
        ap length e ∙ word_length f at flag i ∙ k.0,
        λ m o h. ap (λ (l : List ℕ). le m l o) e ∙ word_apart f at flag i m o (inl (omega arith)) ∙ k.1 m o h,
      )

  flagged_bytes : (n : ℕ) → Bytes s → Bytes (flagged n first b flag s)
  unfolding flagged set_accepted
  flagged_bytes zero bs = bs
  flagged_bytes (suc n) bs =
      let f = flagged n first b flag s in
      put_bytes f (accepted_at (bank_count f) (first + n) b) (bytes 4 flag) (flagged_bytes n bs) (bytes_small 4 flag)

  -- a whole word that is none of them
  flagged_miss : (n o : ℕ) → first + n ≤ images → 4 * (o / 4) ≡ o → ((j : ℕ) → j < n → o ≡ accepted_at banks (first + j) b → ⊥)
      → le 4 (flagged n first b flag s) o ≡ le 4 s o
  unfolding flagged
  flagged_miss zero o fits whole other = refl
  flagged_miss (suc n) o fits whole other =
      let k = flagged_kept n (omega arith) in
      let e = next_is n k.0 (k.1 1 32 (omega arith)) fits in
      let i = next_in n k.0 (k.1 1 32 (omega arith)) fits in
      ap (λ (l : List ℕ). le 4 l o) e
      ∙ word_apart (flagged n first b flag s) (accepted_at banks (first + n) b) flag i 4 o (place_apart banks b below (first + n) o whole
      (other n (omega arith)))
      ∙ flagged_miss n o (omega arith) whole (λ j lt. other j (omega arith))

  -- one of them
  flagged_hit : (n j : ℕ) → first + n ≤ images → flag < 4294967296 → j < n
      → le 4 (flagged n first b flag s) (accepted_at banks (first + j) b) ≡ flag
  flagged_hit zero j fits small lt = absurd (omega arith)
  flagged_hit (suc n) j fits small lt =
      let k = flagged_kept n (omega arith) in
      let e = next_is n k.0 (k.1 1 32 (omega arith)) fits in
      let i = next_in n k.0 (k.1 1 32 (omega arith)) fits in
      let f = flagged n first b flag s in
      ap (λ (l : List ℕ). le 4 l (accepted_at banks (first + j) b)) e
      ∙ ⊎_elim
      (λ p.
      let z : j ≡ n = omega arith in
      rw z (read_back 4 f (accepted_at banks (first + n) b) flag i small))
      (λ p.
      word_apart f (accepted_at banks (first + n) b) flag i 4 (accepted_at banks (first + j) b) (inl (place_before banks b below (first +
      j) (first + n) (omega arith)))
      ∙ flagged_hit n j (omega arith) small p)
      (le_or_lt n j)

-- ---- the altered record
module _ (x : Alteration) (r : List ℕ) (banks : ℕ) (a : Alterable x r banks) where
  long : 40 ≤ length r
  long = header_in r banks (image_count r) a.sized

  abbrev head : List ℕ
  head = three x.active x.previous x.states r long

  head_long : length head ≡ length r
  head_long = three_long x.active x.previous x.states r long

  head_apart : (n o : ℕ) → (o + n ≤ 8) ⊎ (16 ≤ o) → (o + n ≤ 24) ⊎ (28 ≤ o) → le n head o ≡ le n r o
  head_apart = three_apart x.active x.previous x.states r long

  altered_is : altered_by x r ≡ flagged x.count x.first x.bank x.flag head
  unfolding altered_by set_previous set_active
  altered_is = refl

  sized : length head ≡ record_size banks (image_count r)
  sized = head_long ∙ a.sized.long

  has : le 1 head 32 ≡ banks
  unfolding le
  has = omega (arith, head_apart 1 32 (inr (omega arith)) (inr (omega arith)), a.sized.banks_is)

  pub bank_below : x.bank < banks
  bank_below = omega (arith, a.within.bank, a.sized.banks_is)

  kept : (length (altered_by x r) ≡ length head) × ((m o : ℕ) → o + m ≤ 40 → le m (altered_by x r) o ≡ le m head o)
  kept = rw altered_is (flagged_kept head banks (image_count r) x.first x.bank x.flag sized has bank_below x.count a.within.images)

  pub altered_length : length (altered_by x r) ≡ length r
  altered_length = kept.0 ∙ head_long

  pub altered_bytes : Bytes r → Bytes (altered_by x r)
  altered_bytes b =
      rw altered_is
      (flagged_bytes head banks (image_count r) x.first x.bank x.flag sized has bank_below x.count
      (three_bytes x.active x.previous x.states r long b))

  -- the header's words
  pub altered_header : (n o : ℕ) → o + n ≤ 40 → (o + n ≤ 8) ⊎ (16 ≤ o) → (o + n ≤ 24) ⊎ (28 ≤ o) → le n (altered_by x r) o ≡ le n r o
  altered_header n o h p q = kept.1 n o h ∙ head_apart n o p q

  pub altered_active : x.active < 4294967296 → le 4 (altered_by x r) 8 ≡ x.active
  altered_active small = kept.1 4 8 (omega arith) ∙ three_active x.active x.previous x.states r long small

  pub altered_previous : x.previous < 4294967296 → le 4 (altered_by x r) 12 ≡ x.previous
  altered_previous small = kept.1 4 12 (omega arith) ∙ three_previous x.active x.previous x.states r long small

  pub altered_states : x.states < 4294967296 → le 4 (altered_by x r) 24 ≡ x.states
  altered_states small = kept.1 4 24 (omega arith) ∙ three_states x.active x.previous x.states r long small

  pub altered_other : (o : ℕ) → o + 4 ≤ 40 → 4 * (o / 4) ≡ o → (o ≡ 8 → ⊥) → (o ≡ 12 → ⊥) → (o ≡ 24 → ⊥) → le 4 (altered_by x r) o
      ≡ le 4 r o
  altered_other o h whole n8 n12 n24 =
      altered_header 4 o h
      (⊎_elim inl (λ p. ⊎_elim (λ q. absurd (omega (arith, p, q))) inr (words_apart o 12 whole refl n12)) (words_apart o 8 whole refl n8))
      (words_apart o 24 whole refl n24)

  -- the words of the entries
  pub altered_miss : (o : ℕ) → 40 ≤ o → 4 * (o / 4) ≡ o → ((j : ℕ) → j < x.count → o ≡ accepted_at banks (x.first + j) x.bank → ⊥)
      → le 4 (altered_by x r) o ≡ le 4 r o
  altered_miss o h whole other =
      rw altered_is
      (flagged_miss head banks (image_count r) x.first x.bank x.flag sized has bank_below x.count o a.within.images whole other
      ∙ head_apart 4 o (inr (omega arith)) (inr (omega arith)))

  pub altered_flag : (j : ℕ) → x.flag < 4294967296 → j < x.count → le 4 (altered_by x r) (accepted_at banks (x.first + j) x.bank) ≡ x.flag
  altered_flag j small lt =
      rw altered_is (flagged_hit head banks (image_count r) x.first x.bank x.flag sized has bank_below x.count j a.within.images small lt)

  -- told by the offset, which says the image and the place in its entry
  module _ (o size : ℕ) (w : Word r 40 o) (e : size ≡ entry_size banks) where
    abbrev image : ℕ
    image = (o - 40) / size

    pub entry_other : ((o - 40) % size ≡ 32 + 24 * x.bank + 16 → x.first ≤ image → image < x.first + x.count → ⊥)
        → le 4 r o ≡ le 4 (altered_by x r) o
    entry_other other =
        sym
        (altered_miss o w.low w.whole (λ j lt at.
        let q = place_told banks x.bank bank_below (x.first + j) o at in
        let i : image ≡ x.first + j = rw e q.0 in
        other (rw e q.1) (omega (arith, i)) (omega (arith, i))))

    pub entry_flag : x.flag < 4294967296 → (o - 40) % size ≡ 32 + 24 * x.bank + 16 → x.first ≤ image → image < x.first + x.count
        → x.flag ≡ le 4 (altered_by x r) o
    entry_flag small m low high =
        let at : o ≡ accepted_at banks image x.bank = rw e (place_of banks x.bank bank_below o w.low (rw e at m)) in
        let i : image ≡ x.first + (image - x.first) = omega (arith, low) in
        sym
        (ap (λ (o : ℕ). le 4 (altered_by x r) o) (at ∙ ap (λ (n : ℕ). accepted_at banks n x.bank) i)
        ∙ altered_flag (image - x.first) small (omega (arith, low, high)))

  -- the same with its CRC
  room : 0 + 4 ≤ length (altered_by x r)
  room = omega (arith, long, altered_length)

  pub new_length : length (record_with x r) ≡ length r
  unfolding with_crc
  new_length = word_length (altered_by x r) 0 (crc32_of (drop version_at (altered_by x r))) room ∙ altered_length

  pub new_bytes : Bytes r → Bytes (record_with x r)
  unfolding with_crc
  new_bytes b =
      put_bytes (altered_by x r) 0 (bytes 4 (crc32_of (drop version_at (altered_by x r)))) (altered_bytes b)
      (bytes_small 4 (crc32_of (drop version_at (altered_by x r))))

  pub new_apart : (n o : ℕ) → 4 ≤ o → le n (record_with x r) o ≡ le n (altered_by x r) o
  unfolding with_crc
  new_apart n o h = word_apart (altered_by x r) 0 (crc32_of (drop version_at (altered_by x r))) room n o (inr h)

  pub new_crc : (q : ℕ) → q < 4294967296 → q ≡ crc32_of (drop version_at (altered_by x r)) → le 4 (record_with x r) 0 ≡ q
  unfolding with_crc
  new_crc q small e = rw (← e) (read_back 4 (altered_by x r) 0 q room small)

  pub new_version : le 4 (record_with x r) 4 ≡ le 4 r 4
  new_version = new_apart 4 4 (omega arith) ∙ altered_header 4 4 (omega arith) (inl (omega arith)) (inl (omega arith))
