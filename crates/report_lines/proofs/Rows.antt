-- A loop that writes one text behind the other from k on: those below b are written, up to n; m is its limit. Assumes
-- nothing.
use mathlib.Core.Path.{◌≡◌}
use mathlib.Core.List.{List}
use Prim.Native.Nat.{ℕ, ◌+◌, ◌≤◌, ◌<◌}
use native.Mathlib.Omega.{arith}
use Rattle.report_text.specs.Text.{ascending}
use Rattle.report_text.specs.Wrote.{Room, Wrote}
use Rattle.report_text.proofs.Lines.{lines_none, lines_room, lines_more}

pub record Rows (text : ℕ → List ℕ) (count k : ℕ) (d : List ℕ) (m n b : ℕ) (out : List ℕ) : Type 0 where
  pub limit : m ≡ count
  pub low : b ≤ m
  pub wrote : Wrote k n (ascending b text) d out

pub rows_none : {text : ℕ → List ℕ} {count k m : ℕ} {d : List ℕ} → m ≡ count → Room k (ascending count text) d → Rows text count k d m k 0 d
rows_none {text} {count} {k} {m} {d} e h = record { limit = e; low = omega arith; wrote = lines_none text k count d h }

module _ {text : ℕ → List ℕ} {count k m n b : ℕ} {d out : List ℕ} (p : Rows text count k d m n b out) where
  pub rows_room : Room k (ascending count text) d → b < m → Room n (text b) out
  rows_room h t = lines_room text k count d h n b out (omega (arith, p.limit)) p.wrote

  pub rows_more : {j : ℕ} {new : List ℕ} → Room k (ascending count text) d → b < m → Wrote n j (text b) out new → Rows text count k d m j (b + 1) new
  rows_more {j} {new} h t w =
      record { limit = p.limit; low = omega arith; wrote = lines_more text k count d h n j b out new (omega (arith, p.limit)) p.wrote w }

  pub rows_all : m ≤ b → Wrote k n (ascending count text) d out
  rows_all h = let z : b ≡ count = omega (arith, p.low, p.limit) in rw z at p.wrote
