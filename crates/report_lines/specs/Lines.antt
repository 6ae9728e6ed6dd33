-- The lines that the report has of a record (T2 to T5), as bytes. r is the record's bytes. Assumes nothing.
use Rattle.std.specs.Prelude.{ℕ, List, [], ◌∷◌, ◌++◌}
use Rattle.record_layout.specs.Layout.{active, previous, size, state, bank_count, image_count, accepted}
use Rattle.report_text.specs.Text.{ascii, line, ascending}

-- the line of a bank (T4)
unfoldable pub bank_line : List ℕ → ℕ → List ℕ
bank_line r b = line (ascii "bank") (b ∷ state r b ∷ [])

-- the line of an image in a bank (T5)
unfoldable pub image_line : List ℕ → ℕ → ℕ → List ℕ
image_line r i b = line (ascii "image") (i ∷ b ∷ accepted r i b ∷ [])

-- those of an image in all banks
unfoldable pub image_lines : List ℕ → ℕ → List ℕ
image_lines r i = ascending (bank_count r) (image_line r i)

-- the first three lines (T2, T3)
unfoldable pub head_lines : ℕ → List ℕ → List ℕ
head_lines copy r =
    line (ascii "record") (copy ∷ size r ∷ []) ++ (line (ascii "active") (active r ∷ []) ++ line (ascii "previous") (previous r ∷ []))

-- then the banks, then the images
unfoldable pub record_lines : ℕ → List ℕ → List ℕ
record_lines copy r = head_lines copy r ++ (ascending (bank_count r) (bank_line r) ++ ascending (image_count r) (image_lines r))
