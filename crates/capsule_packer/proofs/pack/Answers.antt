-- `pack` meets its contract: the size or its refusal, the room, the capsule. Assumes nothing.
use mathlib.Core.Path.{◌≡◌}
use native.Mathlib.Omega.{arith}
use Rattle.std.proofs.Common.{rules}
use Rattle.refusal_order.specs.Decide.{gives}
use Rattle.capsule_contents.specs.Given.{given}
use Rattle.capsule_packing_rules.specs.Rules.{sized}
use Rattle.capsule_packer.proofs.Steps.{size_refused, size_found, room_refused, packable, all_passed}
use Rattle.capsule_packer.proofs.pack.Goals as goal

pub returns-in_err-size : goal.returns-in_err-size
returns-in_err-size c = search (rules, size_refused)

pub returns-then-out-size : goal.returns-then-out-size
returns-then-out-size c =
    let x = given c.args.lending.now in
    let size : gives c.in_ok-size.size ≡ sized x = search rules in
    let told = size_found x c.in_ok-size.size size in
    room_refused x told.0 c.args.out.now (omega (arith, told.1, c.if-out-size.true))

pub put_capsule-requires : goal.put_capsule-requires
put_capsule-requires c =
    let x = given c.args.lending.now in
    let size : gives c.in_ok-size.size ≡ sized x = search rules in
    let told = size_found x c.in_ok-size.size size in
    (told.1, packable x told.0 c.args.out.now (omega (arith, told.1, c.if-out-size.false)))

pub returns : goal.returns
returns c =
    let x = given c.args.lending.now in
    let size : gives c.in_ok-size.size ≡ sized x = search rules in
    let told = size_found x c.in_ok-size.size size in
    all_passed x told.0 c.args.out.now (omega (arith, told.1, c.if-out-size.false)) _ _ told.1 c.put_capsule.ensures
