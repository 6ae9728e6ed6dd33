-- The memory window (G1): N bytes, the first of them at the address B. Addresses and sums are whole numbers, which
-- never wrap. Assumes nothing.
use Rattle.std.specs.Prelude.{ℕ, ◌+◌, ◌-◌, ◌%◌, ◌^◌, Bool, ◌&&◌, List, leb, ltb, eqb}
use Rattle.fields.specs.Number.{le}

-- N1: the window ends above 2^64
abbrev pub past_window_end : ℕ → ℕ → Bool
past_window_end B N = ltb (2 ^ 64) (B + N)

-- n bytes at the address a lie in the window, at both ends (G8, N103)
unfoldable pub within : ℕ → ℕ → ℕ → ℕ → Bool
within B N a n = leb B a && leb (a + n) (B + N)

-- where a descriptor may stand (G7)
unfoldable pub descriptor_fits : ℕ → ℕ → ℕ → Bool
descriptor_fits B N a = eqb (a % 8) 0 && within B N a 16

-- the 64-bit number at the address a of the window whose bytes are w, where its 8 bytes lie in the window
abbrev pub number64 : List ℕ → ℕ → ℕ → ℕ
number64 w B a = le 8 w (a - B)
