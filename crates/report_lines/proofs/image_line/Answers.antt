-- `image_line` meets its contract. Assumes nothing.
use native.Mathlib.Omega.{arith}
use Rattle.record_layout.proofs.Sound.{sound_sized, sound_long}
use Rattle.report_lines.proofs.Known.{few_banks, few_images}
use Rattle.report_lines.specs.Lines.{image_line}
use Rattle.report_lines.proofs.image_line.Goals as goal

pub bank_count-requires : goal.bank_count-requires
bank_count-requires c = sound_long c.args.r.now c.requires.0

pub accepted_word-flag-requires : goal.accepted_word-flag-requires
accepted_word-flag-requires c =
    (rw c.bank_count.ensures (sound_sized c.args.r.now c.requires.0), c.requires.1, omega (arith, c.bank_count.ensures, c.requires.2))

pub overflow_cast-i : goal.overflow_cast-i
overflow_cast-i c = omega (arith, few_images c.args.r.now c.requires.0, few_banks c.args.r.now c.requires.0)

pub overflow_cast-b : goal.overflow_cast-b
overflow_cast-b c = omega (arith, few_images c.args.r.now c.requires.0, few_banks c.args.r.now c.requires.0)

pub line-requires : goal.line-requires
unfolding image_line
line-requires c = rw c.accepted_word-flag.ensures c.requires.3

pub returns-clause-wrote : goal.returns-clause-wrote
unfolding image_line
returns-clause-wrote c = rw (← c.accepted_word-flag.ensures) c.line.ensures.wrote
