-- Lines of text as bytes (T1). Assumes nothing.
use Rattle.std.specs.Prelude.{ℕ, zero, suc, ◌+◌, ◌/◌, ◌%◌, cond, List, [], ◌∷◌, ◌++◌, ltb}
use Prim.Native.String.{String, len, char_at}
use Prim.Native.Char.{code}

-- the bytes of a text of ASCII characters: n of them, from i on; and all
abbrev pub ascii_from : String → ℕ → ℕ → List ℕ
ascii_from t i zero = []
ascii_from t i (suc n) = code (char_at t i) ∷ ascii_from t (i + 1) n

abbrev pub ascii : String → List ℕ
ascii t = ascii_from t 0 (len t)

abbrev pub tab : ℕ
tab = 9

-- the end of a line: LF alone
abbrev pub line_feed : ℕ
line_feed = 10

-- the digit of a number below ten
abbrev pub digit_of : ℕ → ℕ
digit_of n = 48 + n

-- a number's decimal digits, the highest first, with no zero in front; 0 is one digit. `turns` is how many digits are
-- worked at most: each turn divides by ten, so that one turn more than the number is enough
unfoldable pub digits : (turns n : ℕ) → List ℕ
digits zero n = []
digits (suc turns) n = let more = digits turns (n / 10) in cond (ltb n 10) (digit_of n ∷ []) (more ++ (digit_of (n % 10) ∷ []))

unfoldable pub decimal : ℕ → List ℕ
decimal n = digits (suc n) n

-- the rest of a line: each number behind a tab, and the line's end
unfoldable pub numbers : List ℕ → List ℕ
numbers [] = line_feed ∷ []
numbers (n ∷ ns) = tab ∷ (decimal n ++ numbers ns)

-- a line: a word and numbers
unfoldable pub line : List ℕ → List ℕ → List ℕ
line word ns = word ++ numbers ns

-- the texts of the numbers below n, ascending
unfoldable pub ascending : ℕ → (ℕ → List ℕ) → List ℕ
ascending zero text = []
ascending (suc n) text = ascending n text ++ text n
