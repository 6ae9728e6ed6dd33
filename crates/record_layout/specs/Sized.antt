-- What the functions on entries ask of each other: the counts of banks and images, and the length that R7, R8 and R11
-- give; the rules of soundness in two parts, as the code tests them. Nothing here is needed to read the rules or an
-- entry's promise. Assumes nothing.
use Rattle.std.specs.Prelude.{ℕ, ◌+◌, ◌≤◌, Bool, leb, List, ◌≡◌, length, take, drop}
use Rattle.fields.specs.Number.{le}
use Rattle.record_layout.specs.Layout.{image_limit, bank_limit, bank_count, image_count, record_size, bank_entry_at}
use Rattle.record_layout.specs.Every.{below}
use Rattle.record_layout.specs.Rules.{rules, each}

pub record Sized (r : List ℕ) (banks images : ℕ) : Type 0 where
  pub banks_is : bank_count r ≡ banks
  pub images_is : image_count r ≡ images
  pub banks_low : 2 ≤ banks
  pub banks_high : banks ≤ bank_limit
  pub images_low : 1 ≤ images
  pub images_high : images ≤ image_limit
  pub long : length r ≡ record_size banks images

-- in each bank of image i, the word at `from` in the bank's entry is at most `limit`
unfoldable pub bank_words : List ℕ → (banks from limit i : ℕ) → Bool
bank_words r banks from limit i = below banks (λ b. leb (le 4 r (bank_entry_at banks i b + from)) limit)

-- the rules on which the length rests, R6 to R11, and those behind them, R12 to R19
unfoldable pub first_six : List ℕ → Bool
first_six r = each (take 6 rules) r

unfoldable pub last_eight : List ℕ → Bool
last_eight r = each (drop 6 rules) r
