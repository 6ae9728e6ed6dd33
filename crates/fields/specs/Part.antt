-- Parts of a lent slice: which bytes, and where they lie in memory. s is the bytes of a slice. Assumes nothing.
use Rattle.std.specs.Prelude.{ℕ, ◌+◌, ◌-◌, ◌≤◌, ◌≡◌, List, [], ◌∷◌, length, take, drop}
use Rattle.std.specs.Borrow.{Bor}
use Rattle.fields.specs.declared.Span.{Span}

-- the bytes of s from a up to, not including, e
abbrev pub part : List ℕ → ℕ → ℕ → List ℕ
part s a e = take (e - a) (drop a s)

-- the bytes of a slice from start up to, not including, end
pub record Range : Type 0 where
  pub start : ℕ
  pub end : ℕ

abbrev pub range : ℕ → ℕ → Range
range a e = record { start = a; end = e }

-- what the code's own `Span` tells
abbrev pub range_of : Span → Range
range_of p = range p.start p.end

-- the part that stands for none
abbrev pub empty_at_start : Range
empty_at_start = range 0 0

-- it lies in s
pub record Lies (s : List ℕ) (p : Range) : Type 0 where
  pub ordered : p.start ≤ p.end
  pub inside : p.end ≤ length s

-- how many bytes of s are in it
abbrev pub length_in : (s : List ℕ) → Range → ℕ
length_in s p = length (part s p.start p.end)

-- the two numbers that C is given of it (X6)
abbrev pub start_and_length : (s : List ℕ) → Range → List ℕ
start_and_length s p = p.start ∷ length_in s p ∷ []

-- the slice r is the part of the slice s of bytes in the range, by its bytes and by its place in memory. ptr is a
-- reference's pointer: .0 the block of memory, .1 the byte offset in it. So an empty part has a place too
pub record IsPart (s r : Bor (List ℕ)) (p : Range) : Type 0 where
  pub bytes : r.now ≡ part s.now p.start p.end
  pub block : r.ref_ptr.0 ≡ s.ref_ptr.0
  pub place : r.ref_ptr.1 ≡ s.ref_ptr.1 + p.start
