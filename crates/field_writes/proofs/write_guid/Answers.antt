-- `write_guid` meets its contract: two numbers of 64 bits are the GUID's sixteen bytes. Assumes nothing.
use native.Mathlib.Omega.{arith}
use Rattle.field_writes.proofs.Written.{put_guid}
use Rattle.field_writes.proofs.write_guid.Goals as goal

pub returns : goal.returns
returns c =
    let a = c.args in
    let known = c.type_inv.t in
    put_guid a.s.now a.t.now a.at a.from (λ i. (known i).fits) (omega arith) (omega arith)
    (rw c.read64.ensures at c.write64.ensures) (rw c.read64-2.ensures at c.write64-2.ensures)
