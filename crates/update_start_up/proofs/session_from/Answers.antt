-- `session_from` meets its contract. Assumes nothing.
use mathlib.Core.Path.{refl, sym, ◌∙◌}
use Prim.Native.Nat.{◌≤◌}
use lib.ListN.{length}
use borrow.Author.Tests.{le-leb, lt-leb, eq-eqb, ne_eqb}
use native.Mathlib.Omega.{arith}
use Rattle.record_layout.specs.Layout.{header_size, bank_limit, bank_count, image_count}
use Rattle.record_layout.proofs.Sound.{sound_sized}
use Rattle.record_layout.proofs.Sizes.{header_in}
use Rattle.refusal_order.specs.Decide.{decide, reply}
use Rattle.update_start_up.specs.StartUp.{started_session, started_from}
use Rattle.update_start_up.proofs.session_from.Goals as goal

pub bank_count-requires : goal.bank_count-requires
bank_count-requires c =
    let known : (header_size ≤ length c.args.r.now) × (bank_count c.args.r.now ≤ bank_limit) = let r = c.args.r.now in
    let s = sound_sized r c.requires in (header_in r (bank_count r) (image_count r) s, s.banks_high) in
    known.0

pub returns-then-bank_count-bank : goal.returns-then-bank_count-bank
unfolding started_from decide reply
returns-then-bank_count-bank c = rw (← c.bank_count.ensures, le-leb _ _ c.if-bank_count-bank.true)

pub active-requires : goal.active-requires
active-requires c =
    let known : (header_size ≤ length c.args.r.now) × (bank_count c.args.r.now ≤ bank_limit) = let r = c.args.r.now in
    let s = sound_sized r c.requires in (header_in r (bank_count r) (image_count r) s, s.banks_high) in
    known.0

pub returns-then-booted-active : goal.returns-then-booted-active
unfolding started_from decide reply started_session
returns-then-booted-active c = rw (← c.bank_count.ensures, lt-leb _ _ c.if-bank_count-bank.false, ← c.active.ensures, ne_eqb _ _ c.if-booted-active.true)

pub state-requires : goal.state-requires
state-requires c =
    let known : (header_size ≤ length c.args.r.now) × (bank_count c.args.r.now ≤ bank_limit) = let r = c.args.r.now in
    let s = sound_sized r c.requires in (header_in r (bank_count r) (image_count r) s, s.banks_high) in
    (known.0, omega (arith, known.1, c.bank_count.ensures, c.if-bank_count-bank.false))

pub returns-then-state : goal.returns-then-state
unfolding started_from decide reply started_session
returns-then-state c =
    let b = c.args.booted in
    rw (
      ← c.bank_count.ensures,
      lt-leb _ _ c.if-bank_count-bank.false,
      sym c.active.ensures ∙ sym c.if-booted-active.false,
      eq-eqb b b refl,
      ← c.state.ensures,
      eq-eqb _ _ c.if-state.true,
    )

pub returns : goal.returns
unfolding started_from decide reply started_session
returns c =
    let b = c.args.booted in
    rw (
      ← c.bank_count.ensures,
      lt-leb _ _ c.if-bank_count-bank.false,
      sym c.active.ensures ∙ sym c.if-booted-active.false,
      eq-eqb b b refl,
      ← c.state.ensures,
      ne_eqb _ _ c.if-state.false,
    )
