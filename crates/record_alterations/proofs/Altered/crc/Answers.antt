-- `crc` meets its contract: a turn of the loop takes one word more. Assumes nothing.
use mathlib.Core.Path.{◌≡◌, sym, ap, ◌∙◌}
use mathlib.Core.List.{List, []}
use Prim.Native.Nat.{ℕ, ◌+◌, ◌*◌, ◌≤◌}
use native.Mathlib.Omega.{arith}
use lib.Bits.{bit_xor}
use lib.ListN.{length, drop, drop_of_length-le}
use Rattle.fields.specs.Number.{Bytes, le, bytes}
use Rattle.fields.proofs.Bytes.{drop_number}
use Rattle.record_crc.specs.Crc.{with_bytes, all_ones, crc32_of}
use Rattle.record_crc.proofs.Register.{with_bytes_append}
use Rattle.record_alterations.specs.Altered.{altered_by}
use Rattle.record_layout.specs.Layout.{image_count}
use Rattle.record_layout.proofs.Sizes.{in_words}
use Rattle.record_alterations.proofs.Words.{altered_length, altered_bytes}
use Rattle.record_alterations.proofs.Altered.crc.Goals as goal

-- a turn: one word more
turn : (s : List ℕ) (q w p o : ℕ) → Bytes s → o + 4 ≤ length s → w ≡ le 4 s o → p ≡ with_bytes q (bytes 4 w)
    → with_bytes q (drop o s) ≡ with_bytes p (drop (o + 4) s)
turn s q w p o b h ew ep =
    ap (with_bytes q) (drop_number 4 s o b h)
    ∙ with_bytes_append q (bytes 4 (le 4 s o)) (drop (o + 4) s)
    ∙ ap (λ (k : ℕ). with_bytes k (drop (o + 4) s)) (ap (λ (v : ℕ). with_bytes q (bytes 4 v)) (sym ew) ∙ sym ep)

pub loop-k-preserved : goal.loop-k-preserved
loop-k-preserved c =
    let s = c.args.self.now in
    let N = altered_by s.x s.r.now in
    let l = altered_length s.x s.r.now s.banks s.alterable in
    let next : 4 * (c.loop-k.k + 1) ≡ 4 * c.loop-k.k + 4 = omega arith in
    rw next
    (c.loop-k.invariant
    ∙ turn N c.loop-k.q c.word.result c.with_word-q.result (4 * c.loop-k.k) (altered_bytes s.x s.r.now s.banks s.alterable s.bytes)
    (omega (arith, l, c.loop-k-test.true)) c.word.ensures c.with_word-q.ensures)

pub returns : goal.returns
unfolding crc32_of with_bytes
returns c =
    let s = c.args.self.now in
    let N = altered_by s.x s.r.now in
    let l = altered_length s.x s.r.now s.banks s.alterable in
    let whole = in_words s.r.now s.banks (image_count s.r.now) s.alterable.sized in
    let e : drop (4 * c.loop-k.k) N ≡ [] = drop_of_length-le N (omega (arith, l, whole, c.loop-k-test.false)) in
    ap (λ (k : ℕ). bit_xor k all_ones) (sym (c.loop-k.invariant ∙ ap (with_bytes c.loop-k.q) e))
