-- `is_unchanged` meets its contract: no word differs, or one does. Assumes nothing.
use mathlib.Core.Path.{sym}
use mathlib.Core.Logic.{inl}
use native.Mathlib.Omega.{arith}
use borrow.Author.Rules.{rules}
use Rattle.record_layout.specs.Layout.{image_count}
use Rattle.record_layout.proofs.Sizes.{in_words}
use Rattle.record_alterations.specs.Altered.{altered_by, record_with}
use Rattle.record_alterations.proofs.Same.{words_tell}
use Rattle.record_alterations.proofs.Stays.{crc_stays}
use Rattle.record_alterations.proofs.Words.{altered_length, altered_bytes, altered_header, new_apart}
use Rattle.record_alterations.proofs.Altered.is_unchanged.Goals as goal

pub returns : goal.returns
returns c =
    let s = c.args.self.now in
    let r = s.r.now in
    let N = altered_by s.x r in
    let whole = in_words r s.banks (image_count r) s.alterable.sized in
    words_tell r N c.all.ensures.ran (omega arith) (λ k t q z. search rules) (record_with s.x r) s.bytes
    (altered_bytes s.x r s.banks s.alterable s.bytes) (sym (altered_length s.x r s.banks s.alterable)) (omega (arith, whole))
    (sym (altered_header s.x r s.banks s.alterable 4 0 (omega arith) (inl (omega arith)) (inl (omega arith))))
    (λ e. rw (← e, crc_stays r c.requires s.bytes)) (new_apart s.x r s.banks s.alterable 4)
