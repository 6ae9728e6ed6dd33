-- The customer's example of a report, proved of the definition: two banks, one image, all accepted, active 0, previous
-- 1, copy 0 read. Copy 1 and the bytes behind the record may be anything. Assumes nothing.
use Rattle.std.specs.Prelude.{◌≡◌, List, [], ◌∷◌, ◌++◌, ℕ, length}
use Rattle.std.proofs.Common.{arith, eq-eqb, length-append}
use Rattle.fields.specs.Number.{le}
use Rattle.fields.specs.Guid.{guid, same}
use Rattle.record_crc.specs.Crc.{division_step, steps, with_byte, with_bytes, crc32_of}
use Rattle.record_layout.specs.Every.{below}
use Rattle.record_layout.specs.Layout.{area_size, record_of}
use Rattle.record_layout.specs.Rules as rule
use Rattle.record_copies.specs.Copies.{source_of, read_from}
use Rattle.refusal_order.specs.Decide.{decide}
use Rattle.update_admission.specs.Rows.{read_tests}
use Rattle.report_text.specs.Text.{ascii, digits, decimal, numbers, line, ascending}
use Rattle.report_lines.specs.Lines.{bank_line, image_line, image_lines, head_lines, record_lines}
use Rattle.report.specs.Report.{report_by, report_of}

-- the record's 120 bytes, every GUID zero
abbrev pub example_record : List ℕ
example_record =
    249 ∷ 251 ∷ 88 ∷ 245 ∷ 2 ∷ 0 ∷ 0 ∷ 0 ∷ 0 ∷ 0 ∷ 0 ∷ 0 ∷ 1 ∷ 0 ∷ 0 ∷ 0 ∷ 120 ∷ 0 ∷ 0 ∷ 0 ∷
    32 ∷ 0 ∷ 0 ∷ 0 ∷ 252 ∷ 252 ∷ 255 ∷ 255 ∷ 0 ∷ 0 ∷ 0 ∷ 0 ∷ 2 ∷ 0 ∷ 1 ∷ 0 ∷ 80 ∷ 0 ∷ 24 ∷ 0 ∷
    0 ∷ 0 ∷ 0 ∷ 0 ∷ 0 ∷ 0 ∷ 0 ∷ 0 ∷ 0 ∷ 0 ∷ 0 ∷ 0 ∷ 0 ∷ 0 ∷ 0 ∷ 0 ∷ 0 ∷ 0 ∷ 0 ∷ 0 ∷
    0 ∷ 0 ∷ 0 ∷ 0 ∷ 0 ∷ 0 ∷ 0 ∷ 0 ∷ 0 ∷ 0 ∷ 0 ∷ 0 ∷ 0 ∷ 0 ∷ 0 ∷ 0 ∷ 0 ∷ 0 ∷ 0 ∷ 0 ∷
    0 ∷ 0 ∷ 0 ∷ 0 ∷ 0 ∷ 0 ∷ 0 ∷ 0 ∷ 1 ∷ 0 ∷ 0 ∷ 0 ∷ 0 ∷ 0 ∷ 0 ∷ 0 ∷ 0 ∷ 0 ∷ 0 ∷ 0 ∷
    0 ∷ 0 ∷ 0 ∷ 0 ∷ 0 ∷ 0 ∷ 0 ∷ 0 ∷ 0 ∷ 0 ∷ 0 ∷ 0 ∷ 1 ∷ 0 ∷ 0 ∷ 0 ∷ 0 ∷ 0 ∷ 0 ∷ 0 ∷ []

pub example : (rest : List ℕ) → length rest ≡ 16264
    → report_of (example_record ++ rest)
    ≡ ascii "record\t0\t120\nactive\t0\nprevious\t1\nbank\t0\t252\nbank\t1\t252\nimage\t0\t0\t1\nimage\t0\t1\t1\n"
unfolding report_of report_by read_tests decide record_lines head_lines bank_line image_line image_lines ascending line numbers
    decimal digits source_of read_from record_of rule.sound_copy rule.sound rule.version_rule rule.bank_count_rule
    rule.image_count_rule rule.bank_entry_size_rule rule.image_entry_size_rule rule.size_rule rule.descriptor_offset_rule
    rule.reserved_rule rule.banks_named_rule rule.accepted_rule rule.type_guids_rule rule.state_allowed rule.states_rule
    rule.all_accepted rule.bank_consistent rule.banks_rule rule.crc_rule below le guid same division_step steps with_byte with_bytes
    crc32_of
example rest h = rw (eq-eqb (length (example_record ++ rest)) area_size (omega (arith, length-append example_record rest)))
