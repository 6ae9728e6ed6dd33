-- `push` meets its contract. Assumes nothing.
use Rattle.record_stores.proofs.Laid.{added_one}
use Rattle.record_stores.proofs.StoreList.push.Goals as goal

pub returns-clause-added : goal.returns-clause-added
returns-clause-added c = let l = c.args.self.now in added_one l.pairs l.out.now c.args.offset c.args.word c.requires
