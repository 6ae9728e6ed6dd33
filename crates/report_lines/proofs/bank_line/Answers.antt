-- `bank_line` meets its contract. Assumes nothing.
use native.Mathlib.Omega.{arith}
use Rattle.report_lines.proofs.Known.{few_banks}
use Rattle.record_layout.proofs.Sound.{sound_long}
use Rattle.report_lines.specs.Lines.{bank_line}
use Rattle.report_lines.proofs.bank_line.Goals as goal

pub overflow_cast-b : goal.overflow_cast-b
overflow_cast-b c = omega (arith, few_banks c.args.r.now c.requires.0)

pub state-requires : goal.state-requires
state-requires c = (sound_long c.args.r.now c.requires.0, omega (arith, few_banks c.args.r.now c.requires.0))

pub line-requires : goal.line-requires
unfolding bank_line
line-requires c = rw (c.from.ensures, c.state.ensures) c.requires.2

pub returns-clause-wrote : goal.returns-clause-wrote
unfolding bank_line
returns-clause-wrote c = rw (← c.state.ensures, ← c.from.ensures) c.line.ensures.wrote
