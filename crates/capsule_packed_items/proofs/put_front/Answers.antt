-- `put_front` meets its contract: the GUID, four words, and the two counts behind them. Assumes nothing.
use Rattle.fields.specs.Guid.{guid}
use Rattle.capsule_packed_items.proofs.Puts.{front_put}
use Rattle.capsule_packed_items.proofs.put_front.Goals as goal

pub returns : goal.returns
unfolding guid
returns c =
    let a = c.args in
    front_put a.out.now a.flags a.size a.drivers a.payloads c.requires c.write_guid.ensures
    c.write_words.ensures c.write16.ensures c.write16-2.ensures
