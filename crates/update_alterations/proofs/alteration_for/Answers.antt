-- `alteration_for` meets its contract. Assumes nothing.
use Rattle.update_changes.specs.Changed.{changed_by}
use Rattle.update_alterations.proofs.alteration_for.Goals as goal

pub returns-in-Nothing : goal.returns-in-Nothing
unfolding changed_by
returns-in-Nothing c =
    let u = c.unaltered.ensures in
    rw c.in-Nothing.is (record { new_is = u.stays; within = u.within })

pub returns-in-Begin : goal.returns-in-Begin
unfolding changed_by
returns-in-Begin c = rw c.in-Begin.is c.begin_alteration.ensures

pub commit_alteration-requires : goal.commit_alteration-requires
commit_alteration-requires c = (c.requires.0, rw c.in-Commit.is at c.requires.1)

pub returns-in-Commit : goal.returns-in-Commit
unfolding changed_by
returns-in-Commit c = rw c.in-Commit.is c.commit_alteration.ensures

pub returns-in-End : goal.returns-in-End
unfolding changed_by
returns-in-End c = rw c.in-End.is c.end_alteration.ensures

pub accept_alteration-requires : goal.accept_alteration-requires
accept_alteration-requires c = (c.requires.0, rw c.in-Accept.is at c.requires.1)

pub returns-in-Accept : goal.returns-in-Accept
unfolding changed_by
returns-in-Accept c = rw c.in-Accept.is c.accept_alteration.ensures

pub returns-in-Exchange : goal.returns-in-Exchange
unfolding changed_by
returns-in-Exchange c = rw c.in-Exchange.is c.exchange_alteration.ensures
