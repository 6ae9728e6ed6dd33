-- The whole report: that 4,096 bytes hold a refusal's line, and what is written at each way out. Assumes nothing.
use mathlib.Core.Path.{◌≡◌, ap}
use mathlib.Core.Logic.{◌≢◌}
use mathlib.Core.Bool.{Bool, true, false, cond}
use mathlib.Core.List.{List, [], ◌++◌}
use Prim.Native.Nat.{ℕ, ◌≤◌, ◌<◌}
use Rattle.std.specs.Prelude.{Some, None}
use native.Mathlib.Nat.{zero-add}
use native.Mathlib.Omega.{arith}
use borrow.Author.Tests.{eq-eqb, ne_eqb, le-leb}
use lib.Dec.{leb}
use lib.ListN.{length, drop, length-append}
use Rattle.fields.specs.Number.{put}
use Rattle.refusals.specs.Number.{number_of}
use Rattle.refusals.specs.declared.Refusal.TheVariants.{AreaLength, NoSoundCopy}
use Rattle.record_layout.specs.Layout.{area_size}
use Rattle.record_copies.specs.Copies.{source_of, record_read}
use Rattle.record_copies.specs.declared.Source.{Source}
use Rattle.record_copies.specs.declared.Source.TheVariants.{Copy0, Copy1}
use Rattle.refusal_order.specs.Decide.{decide}
use Rattle.update_admission.specs.Rows.{read_tests}
use Rattle.update_admission.proofs.Area.{none_sound, some_sound}
use Rattle.report_text.specs.Text.{ascii}
use Rattle.report_text.specs.Wrote.{Room, Wrote}
use Rattle.report_text.proofs.Digits.{two_digits}
use Rattle.report_lines.specs.Lines.{record_lines}
use Rattle.report_lines.proofs.Lengths.{length_line, length_end}
use Rattle.report.specs.Report.{refused_line, copy_number, report_by, report_of, report_limit, with_text, report_in}

pub refused_room : (number : ℕ) (out : List ℕ) → number < 100 → 4096 ≤ length out → Room 0 (refused_line number) out
unfolding refused_line
refused_room number out h l = omega (arith, length_line (ascii "refused") number [], length_end, two_digits number h)

pub small_copy : (s : Source) → copy_number (Some s) < 10
small_copy Copy0 = omega arith
small_copy Copy1 = omega arith

-- a text that was written from the slice's front on
pub report_is : (a t s new : List ℕ) (n : ℕ) → 4096 ≤ length s → report_of a ≡ t → Wrote 0 n t s new → (n, new) ≡ report_in a s
unfolding report_in with_text put
report_is a t s new n h q p =
    let c : n ≡ length t = omega (arith, p.count) in
    let z : new ≡ t ++ drop (length t) s = simp zero-add at p.is in
    rw (le-leb report_limit (length s) h, q, c, z)

module _ (a : List ℕ) where
  pub report_length : length a ≢ area_size → report_of a ≡ refused_line (number_of AreaLength)
  unfolding report_of report_by decide read_tests
  report_length h = rw (ne_eqb (length a) area_size h)

  module _ (l : length a ≡ area_size) where
    -- no fault
    pub report_some : (s : Source) → source_of a ≡ Some s → report_of a ≡ record_lines (copy_number (Some s)) (record_read a)
    unfolding report_of report_by decide read_tests
    report_some s h = rw (eq-eqb (length a) area_size l, some_sound a s h, h)

    pub report_none : source_of a ≡ None → report_of a ≡ refused_line (number_of NoSoundCopy)
    unfolding report_of report_by decide read_tests
    report_none h = rw (eq-eqb (length a) area_size l, none_sound a h)

-- what is written lies in the slice, so that a caller may take that part of it
pub report_within : (a s new : List ℕ) (n : ℕ) → ◌≡◌ {A = ℕ × List ℕ} (n, new) (report_in a s) → n ≤ length new
unfolding report_in with_text
report_within a s new n e = go (leb report_limit (length s)) e
  where
    go : (b : Bool)
        → ◌≡◌ {A = ℕ × List ℕ} (n, new) (cond b (length (report_of a), report_of a ++ drop (length (report_of a)) s) (0, s))
        → n ≤ length new
    go true q =
        let t = report_of a in
        omega (arith, ap (λ (p : ℕ × List ℕ). p.0) q, ap (λ (p : ℕ × List ℕ). length p.1) q, length-append t (drop (length t) s))
    go false q = omega (arith, ap (λ (p : ℕ × List ℕ). p.0) q)
