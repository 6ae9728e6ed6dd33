-- `put_byte` meets its contract. Assumes nothing.
use native.Mathlib.Omega.{arith}
use Rattle.report_text.proofs.Writing.{wrote_one}
use Rattle.report_text.proofs.Text.put_byte.Goals as goal

pub returns-clause-wrote : goal.returns-clause-wrote
returns-clause-wrote c = let t = c.args.self.now in wrote_one t.len c.args.x t.out.now (omega arith)
