-- `staged` meets its contract. Assumes nothing.
use Rattle.std.proofs.Common.{◌≡◌, sym, ◌∙◌, arith}
use borrow.Author.Tests.{eq-eqb, ne_eqb, eqb-true}
use lib.Count.{leading_le}
use Rattle.fields.proofs.Tests.{no_true}
use Rattle.record_layout.specs.Layout.{state}
use Rattle.update_changes.specs.NewRecord.{update_bank_of}
use Rattle.update_committed_set.specs.Set.{set_bits, staged_fits}
use Rattle.update_committed_set.proofs.Known.{known}
use Rattle.update_committed_set.proofs.Fits.{set_decides}
use Rattle.update_committed_set.proofs.staged.Goals.{then-bank-update_bank, else-bank-update_bank}
use Rattle.update_committed_set.proofs.staged.Goals as goal

pub state-requires : goal.state-requires
state-requires c =
    let k = known c.args.r.now c.requires in
    (k.header, omega (arith, k.update_low, k.banks_high, c.update_bank.ensures.0, c.if-bank-update_bank.true))

pub image_count-requires : goal.image_count-requires
image_count-requires c = (known c.args.r.now c.requires).header

pub overflow_cast-result : goal.overflow_cast-result
overflow_cast-result c = omega (arith, c.image_count.ensures, (known c.args.r.now c.requires).images_high)

pub overflow_add-result : goal.overflow_add-result
overflow_add-result c =
    omega (arith, c.image_count.ensures, (known c.args.r.now c.requires).images_high, leading_le set_bits c.args.set)

pub returns-then-state : goal.returns-then-state
returns-then-state c =
    let right : (c.args.bank ≡ update_bank_of c.args.r.now) × (state c.args.r.now c.args.bank ≡ 255) =
    elim c.if-bank-update_bank.branch [
      | then-bank-update_bank w ↦
          (w.if-bank-update_bank.true ∙ c.update_bank.ensures.0, sym w.state.ensures ∙ eqb-true _ _ (sym w.value-is ∙ c.if-state.true))
      | else-bank-update_bank w ↦ absurd (no_true (sym (ne_eqb _ _ w.if-bank-update_bank.false) ∙ sym w.value-is ∙ c.if-state.true))
    ] in
    set_decides c.args.bank c.args.set c.image_count.result c.args.r.now right.0 right.1 c.image_count.ensures c.ranges.set.fits

pub returns-else-state : goal.returns-else-state
unfolding staged_fits
returns-else-state c =
    elim c.if-bank-update_bank.branch [
      | then-bank-update_bank w ↦
          let bank = eq-eqb _ _ w.if-bank-update_bank.true in
          rw (← c.update_bank.ensures.0, bank, ← w.state.ensures, sym w.value-is ∙ c.if-state.false) c.if-state.false
      | else-bank-update_bank w ↦ rw (← c.update_bank.ensures.0, ne_eqb _ _ w.if-bank-update_bank.false) c.if-state.false
    ]
