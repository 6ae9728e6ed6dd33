-- The copy of the blocks to the place, one behind the other. Assumes nothing.
use mathlib.Core.Path.{◌≡◌, refl, sym, ap, ◌∙◌}
use mathlib.Core.Bool.{true}
use mathlib.Core.Logic.{◌⊎◌, inl, inr, ⊎_elim}
use mathlib.Core.List.{List, [], ◌∷◌, ◌++◌, append-nil, append_assoc}
use Prim.Native.Nat.{ℕ, zero, suc, ◌+◌, ◌-◌, ◌<◌, ◌≤◌}
use native.Mathlib.Nat.{add-zero}
use native.Mathlib.Numerals.{add-one}
use native.Mathlib.Omega.{arith}
use lib.ListN.{length, get_or, take, drop, length-take, length-append, length-drop, take-append-drop}
use lib.Seq.{paste, get_or-take, get_or-drop, length-take-le, take-suc, ext_get_or}
use Rattle.std.specs.declared.ops.Range.{Range}
use Rattle.fields.specs.Number.{le, put}
use Rattle.fields.proofs.Tests.{le_or_lt}
use Rattle.fields.proofs.Number.{le_same}
use Rattle.fields.proofs.Put.{put_paste, put_length, put_outside, put_more}
use Rattle.gather_descriptors.specs.Reading.{length_of, address_of}
use Rattle.gather_descriptors.specs.Scratch.{Readable, BlockIs, AllReadable, lengths}
use Rattle.gather_descriptors.proofs.Steps.{length_at, address_at}
use Rattle.gather_place.specs.Place.{clear_of, free}
use Rattle.gather_place.proofs.Ranges.{clear_each, clear_descriptor, clear_block}
use Rattle.gather_place.proofs.Search.{free_parts}
use Rattle.gather_blocks.specs.Blocks.{block, blocks}
use Rattle.gather_blocks.specs.Copy.{Ready}

-- nothing written
put_nothing : (w : List ℕ) (q : ℕ) → w ≡ put w q []
unfolding put
put_nothing w q = simp (add-zero, append-nil, take-append-drop)

-- a copy of the block
pub block_put : (w : List ℕ) (B d q : ℕ) (r : Range ℕ) → Readable w B d → BlockIs w B d r
    → paste w q (drop r.start w) (r.end - r.start) ≡ put w q (block w B d)
unfolding block
block_put w B d q r readable is =
    let s : address_of w B d - B ≡ r.start = omega (arith, is.starts) in
    let n : r.end - r.start ≡ length_of w B d = omega (arith, is.ends) in
    rw (n, s) (put_paste w q (drop r.start w) (length_of w B d) (simp length-drop (omega (arith, is.starts, (readable.block is.some).1))))

pub no_block : (w : List ℕ) (B d q : ℕ) → length_of w B d ≡ 0 → w ≡ put w q (block w B d)
unfolding block
no_block w B d q e = rw e (put_nothing w q)

pub none_yet : (w : List ℕ) (B p : ℕ) → w ≡ put w p (blocks w B [])
unfolding blocks
none_yet w B p = put_nothing w p

pub at_start : (w : List ℕ) (B p : ℕ) → p ≡ p + length (blocks w B [])
unfolding blocks
at_start w B p = simp add-zero

pub block_length : (w : List ℕ) (B d : ℕ) → Readable w B d → length (block w B d) ≡ length_of w B d
unfolding block
block_length w B d h =
    length-take-le (length_of w B d) (drop (address_of w B d - B) w)
    (⊎_elim (λ z. omega arith) (λ z. let g = h.block z in simp length-drop (omega arith)) (le_or_lt (length_of w B d) 0))

blocks_more : (w : List ℕ) (B : ℕ) (xs : List ℕ) (d : ℕ) → blocks w B (xs ++ (d ∷ [])) ≡ blocks w B xs ++ block w B d
unfolding blocks
blocks_more w B [] d = append-nil (block w B d)
blocks_more w B (x ∷ xs) d =
    ap (λ (l : List ℕ). block w B x ++ l) (blocks_more w B xs d) ∙ sym (append_assoc (block w B x) (blocks w B xs) (block w B d))

pub blocks_length : (w : List ℕ) (B : ℕ) (ds : List ℕ) → AllReadable w B ds → length (blocks w B ds) ≡ lengths w B ds
unfolding blocks lengths
blocks_length w B [] h = refl
blocks_length w B (d ∷ ds) h =
    omega (
      arith,
      length-append (block w B d) (blocks w B ds),
      block_length w B d (h 0 (omega arith)),
      blocks_length w B ds
          (λ i lt. h (suc i) (omega arith)),
    )

blocks_front : (w : List ℕ) (B : ℕ) (ds : List ℕ) (i : ℕ) → length (blocks w B (take i ds)) ≤ length (blocks w B ds)
unfolding blocks
blocks_front w B [] zero = omega arith
blocks_front w B [] (suc i) = omega arith
blocks_front w B (d ∷ ds) zero = omega arith
blocks_front w B (d ∷ ds) (suc i) = let h = blocks_front w B ds i in simp length-append (omega arith)

module _ (w : List ℕ) (B : ℕ) (ds : List ℕ) (p : ℕ) (sound : AllReadable w B ds) (fr : free w B (lengths w B ds) ds (B + p) ≡ true) where
  abbrev total : ℕ
  total = lengths w B ds

  roomy : p + total ≤ length w
  roomy = omega (arith, (free_parts w B total ds (B + p) fr).1)

  clear : (i : ℕ) → i < length ds → clear_of w B total (B + p) (get_or ds i 0) ≡ true
  clear i h = clear_each w B total (B + p) ds i h (free_parts w B total ds (B + p) fr).2

  so_far : (i : ℕ) → length (blocks w B (take i ds)) ≤ total
  so_far i = rw (blocks_length w B ds sound) at (blocks_front w B ds i)

  one_more : (i : ℕ) → i < length ds → blocks w B (take (i + 1) ds) ≡ blocks w B (take i ds) ++ block w B (get_or ds i 0)
  one_more i h = rw (add-one, take-suc ds i 0 h, blocks_more)

  -- turn i: the window x has the blocks before descriptor i at the place
  module _ (i : ℕ) (h : i < length ds) where
    abbrev d : ℕ
    d = get_or ds i 0

    abbrev xs : List ℕ
    xs = blocks w B (take i ds)

    abbrev x : List ℕ
    x = put w p xs

    room : length xs + length_of w B d ≤ total
    room =
        omega (arith, so_far (i + 1), ap length (one_more i h), length-append xs (block w B d), block_length w B d (sound i h))

    inside : p + length xs ≤ length w
    inside = omega (arith, roomy, room)

    d_apart : (B + p + total ≤ d) ⊎ (d + 16 ≤ B + p)
    d_apart = clear_descriptor w B total (B + p) d (clear i h)

    b_apart : 0 < length_of w B d → (B + p + total ≤ address_of w B d) ⊎ (address_of w B d + length_of w B d ≤ B + p)
    b_apart z = clear_block w B total (B + p) d (clear i h) z

    -- the descriptor is still what it was, and so is its block
    same_number : (a : ℕ) → d - B ≤ a → a + 8 ≤ d - B + 16 → le 8 x a ≡ le 8 w a
    same_number a l u =
        let m = room in
        let r = (sound i h).low in
        le_same 8 x w a a (λ k lt. put_outside w p xs inside (a + k) (⊎_elim (λ g. inr (omega arith)) (λ g. inl (omega arith)) d_apart))

    same_length : length_of x B d ≡ length_of w B d
    same_length = length_at x B d ∙ same_number (d - B) (omega arith) (omega arith) ∙ sym (length_at w B d)

    same_address : address_of x B d ≡ address_of w B d
    same_address =
        let r = (sound i h).low in
        address_at x B d r ∙ same_number (d - B + 8) (omega arith) (omega arith) ∙ sym (address_at w B d r)

    same_block : block x B d ≡ block w B d
    unfolding block
    same_block =
        let s = address_of w B d - B in
        let size = length_of w B d in
        rw (same_length, same_address)
        (sym
        (ext_get_or 0 (take size (drop s w)) (take size (drop s x)) (simp (length-take, length-drop, put_length w p xs inside)) (λ k lk.
        let l : k < size = omega (arith, block_length w B d (sound i h)) in
        let m = room in
        let b = (sound i h).block (omega arith) in
        get_or-take size (drop s w) k 0 l
        ∙ get_or-drop s w k 0
        ∙ sym (put_outside w p xs inside (s + k) (⊎_elim (λ g. inr (omega arith)) (λ g. inl (omega arith)) (b_apart (omega arith))))
        ∙ sym (get_or-take size (drop s x) k 0 l ∙ get_or-drop s x k 0))))

    still_readable : Readable x B d
    still_readable =
        let r = sound i h in
        let e = put_length w p xs inside in
        record { low = r.low; high = rw e r.high; block = rw (same_length, same_address, e) r.block }

    pub ready : Ready x B d (p + length xs)
    ready =
        let m = room in
        let r = roomy in
        record {
          readable = still_readable;
          room = rw (same_length, put_length w p xs inside) (omega arith);
        }

    pub after : put x (p + length xs) (block x B d) ≡ put w p (blocks w B (take (i + 1) ds))
    after = rw (same_block, one_more i h) (put_more w p xs (block w B d) (omega (arith, roomy, room, block_length w B d (sound i h))))

    pub next : p + length xs + length_of x B d ≡ p + length (blocks w B (take (i + 1) ds))
    next = omega (arith, same_length, ap length (one_more i h), length-append xs (block w B d), block_length w B d (sound i h))
