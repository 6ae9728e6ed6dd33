-- `write_from` meets its contract. Assumes nothing.
use mathlib.Core.Path.{◌≡◌, sym}
use Prim.Native.Nat.{◌<◌}
use Rattle.std.proofs.Common.{rules}
use Rattle.std.specs.Prelude.{Err}
use Rattle.record_layout.specs.Layout.{bank_count}
use Rattle.update_start_up.specs.StartUp.{started_session}
use Rattle.directory_writer.proofs.Steps.{booted_refused, booted_passed, own_refused, own_passed, enough}
use Rattle.directory_writer.proofs.write_from.Goals as goal
use Rattle.directory_writer.proofs.write_from.Goals.{In_ok-session}

-- the session, where start-up gives one
booted : (c : In_ok-session) → (c.args.booted < bank_count c.args.r.now)
    × (c.in_ok-session.session ≡ started_session c.args.r.now c.args.booted)
booted c = booted_passed c.args.r.now c.args.booted c.in_ok-session.session (rw c.in_ok-session.was at c.session_from.ensures)

pub returns-in_err-session : goal.returns-in_err-session
returns-in_err-session c =
    let a = c.args in
    let why : c.from_residual.result ≡ Err c.in_err-session.field-0.0 = search rules in
    rw why
    (booted_refused a.r.now a.booted a.words.now a.out.now c.in_err-session.field-0.0 (rw c.in_err-session.was at c.session_from.ensures))

pub returns-in_err-admit : goal.returns-in_err-admit
returns-in_err-admit c =
    let a = c.args in
    let b = booted (goal.at.returns-in_err-admit c).In_ok-session in
    let why : c.from_residual-in_err-admit.result ≡ Err c.in_err-admit.field-0.0 = search rules in
    rw why (own_refused a.r.now a.booted a.words.now a.out.now b.0 c.in_err-admit.field-0.0 (rw c.in_err-admit.was at c.admit.ensures))

pub put_directory-requires : goal.put_directory-requires
put_directory-requires c =
    let b = booted (goal.at.put_directory-requires c).In_ok-session in
    let n = enough c.args.r.now c.args.words.now _ (rw c.in_ok-admit.was at c.admit.ensures) in
    (c.requires, b.0, b.1, n.0, n.1)

pub returns : goal.returns
returns c =
    let a = c.args in
    let b = booted (goal.at.returns c).In_ok-session in
    let p = c.put_directory.ensures in
    own_passed a.r.now a.booted a.words.now a.out.now b.0 _ _ (rw c.in_ok-admit.was at c.admit.ensures) p.0 p.1
