-- The report of an area (T1 to T7), as bytes. a is the bytes of the area. The report is no call: it needs one sound
-- copy, so 22 is not for it, and a refused area has a report too. Assumes nothing.
use Rattle.std.specs.Prelude.{ℕ, cond, List, [], ◌∷◌, ◌++◌, leb, length, drop, Option, Some, None}
use Rattle.record_copies.specs.Copies.{source_of, record_read}
use Rattle.record_copies.specs.declared.Source.{Source}
use Rattle.record_copies.specs.declared.Source.TheVariants.{Copy0, Copy1}
use Rattle.refusal_order.specs.Decide.{Decision, passed, refusal, decide}
use Rattle.update_admission.specs.Rows.{read_tests}
use Rattle.report_text.specs.Text.{ascii, line}
use Rattle.report_lines.specs.Lines.{record_lines}

-- the line of a refusal (T6)
unfoldable pub refused_line : (number : ℕ) → List ℕ
refused_line number = line (ascii "refused") (number ∷ [])

-- the number of the copy that is read; where there is none, the report is a refusal's
abbrev pub copy_number : Option Source → ℕ
copy_number (Some Copy0) = 0
copy_number (Some Copy1) = 1
copy_number None = 0

-- the lines of the record read, or that of the refusal
unfoldable pub report_by : Decision → List ℕ → List ℕ
report_by passed a = record_lines (copy_number (source_of a)) (record_read a)
report_by (refusal number values) a = refused_line number

-- the report; 20, 21
unfoldable pub report_of : List ℕ → List ℕ
report_of a = report_by (decide (read_tests a)) a

-- a slice of so many bytes holds every report
abbrev pub report_limit : ℕ
report_limit = 4096

-- a slice with a text at its front, and every byte past it as it was
unfoldable pub with_text : List ℕ → List ℕ → List ℕ
with_text s t = t ++ drop (length t) s

-- How many bytes are written, and the slice afterwards. A slice below 4,096 bytes stays as it was and the count is 0;
-- no report is empty, so 0 means just that
unfoldable pub report_in : List ℕ → List ℕ → ℕ × List ℕ
report_in a s = cond (leb report_limit (length s)) (length (report_of a), with_text s (report_of a)) (0, s)
