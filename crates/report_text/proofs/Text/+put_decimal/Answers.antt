-- `put_decimal` meets its contract. It calls itself for a tenth of the number. Assumes nothing.
use Prim.Native.Nat.{◌/◌, ◌%◌}
use mathlib.Core.List.{[], ◌∷◌}
use mathlib.Core.Path.{ap}
use native.Mathlib.Omega.{arith}
use lib.ListN.{length}
use Rattle.report_text.specs.Text.{digit_of, decimal}
use Rattle.report_text.proofs.Digits.{decimal_low, decimal_more}
use Rattle.report_text.proofs.Writing.{room_first, room_left, and_then}
use Rattle.report_text.proofs.Text.+put_decimal.Goals as goal

pub put_byte-requires : goal.put_byte-requires
put_byte-requires t c = omega (arith, ap length (decimal_low c.args.x c.if-x-lt10.true))

pub returns-then-x-lt10-clause-wrote : goal.returns-then-x-lt10-clause-wrote
returns-then-x-lt10-clause-wrote t c = rw (decimal_low c.args.x c.if-x-lt10.true, ← c.digit.ensures) c.put_byte.ensures.wrote

pub put_decimal-requires : goal.put_decimal-requires
put_decimal-requires t c =
    let a = c.args in
    let s = a.self.now in
    let room = rw (decimal_more a.x c.if-x-lt10.false) at c.requires in
    (omega (arith, c.requires), room_first s.len (decimal (a.x / 10)) (digit_of (a.x % 10) ∷ []) s.out.now room)

pub put_byte-requires-else-x-lt10 : goal.put_byte-requires-else-x-lt10
put_byte-requires-else-x-lt10 t c =
    let digit = c.digit-else-x-lt10 in
    room_left (digit.result ∷ []) (rw (digit.ensures, ← decimal_more c.args.x c.if-x-lt10.false) c.requires) c.put_decimal.ensures.wrote

pub returns-else-x-lt10-clause-wrote : goal.returns-else-x-lt10-clause-wrote
returns-else-x-lt10-clause-wrote t c =
    let more = decimal_more c.args.x c.if-x-lt10.false in
    let digit = c.digit-else-x-lt10.ensures in
    rw (more, ← digit) (and_then (rw (digit, ← more) c.requires) c.put_decimal.ensures.wrote c.put_byte-else-x-lt10.ensures.wrote)
