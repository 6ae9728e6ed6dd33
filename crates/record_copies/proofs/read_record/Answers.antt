-- `read_record` meets its contract. Assumes nothing.
use Rattle.record_copies.proofs.Reading.{read0, read1}
use Rattle.record_copies.proofs.read_record.Goals as goal

pub returns-in-Copy0 : goal.returns-in-Copy0
returns-in-Copy0 c = rw c.record_at.ensures (read0 c.args.area.now (rw c.in-Copy0.is at c.requires.1))

pub returns-in-Copy1 : goal.returns-in-Copy1
returns-in-Copy1 c = rw c.record_at-in-Copy1.ensures (read1 c.args.area.now (rw c.in-Copy1.is at c.requires.1))
