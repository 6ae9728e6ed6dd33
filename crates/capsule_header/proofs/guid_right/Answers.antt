-- `guid_right` meets its contract. Assumes nothing.
use Rattle.fields.specs.Guid.{guid}
use Rattle.capsule_header.specs.Header.{guid_right}
use Rattle.capsule_header.proofs.guid_right.Goals as goal

pub returns : goal.returns
unfolding guid_right guid
returns c = c.same_guid.ensures
