-- `put_number` meets its contract. Assumes nothing.
use Rattle.report_text.proofs.Writing.{and_then}
use Rattle.report_text.proofs.Text.put_number.Goals as goal

pub returns-clause-wrote : goal.returns-clause-wrote
returns-clause-wrote c = and_then c.requires c.put_byte.ensures.wrote c.put_decimal.ensures.wrote
