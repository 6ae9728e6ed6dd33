-- The session that a call answers fits the record that it makes (S20), as far as the record tells: what Staging carries
-- passes refusal 24, and start-up in the active bank finds that bank and its state. r is the bytes of the old record,
-- new those of the new one. Assumes nothing.
use Rattle.std.specs.Prelude.{ℕ, ◌≡◌, true, cond, List}
use Rattle.fields.specs.Number.{Bytes}
use Rattle.record_layout.specs.Layout.{active, previous, state}
use Rattle.record_layout.specs.Rules.{valid, accepted_bank, all_accepted, sound}
use Rattle.update_changes.specs.NewRecord.{update_bank_of, completes}
use Rattle.update_changes.specs.Changed.{changed_by, Names}
use Rattle.update_changes.specs.declared.Change.{Change}
use Rattle.update_changes.specs.declared.Change.TheVariants.{Nothing, Begin, Commit, End, Accept, Exchange}
use Rattle.update_committed_set.specs.Set.{joined, staged_fits}

-- the active bank, the previous one, and the active one's state: 252 is Regular there, 254 Trial
pub record Stands (new : List ℕ) (bank before status : ℕ) : Type 0 where
  pub active_is : active new ≡ bank
  pub previous_is : previous new ≡ before
  pub status_is : state new (active new) ≡ status

-- they are as in the old record
abbrev pub StandsAs : (r new : List ℕ) → Type 0
StandsAs r new = Stands new (active r) (previous r) (state r (active r))

-- Begin: Staging of the update bank with the empty set. Commit: Staging of the same bank with the set that the image
-- has joined; so Cancel goes back to the active bank as Begin found it. End: Restart, into a bank that is Regular if
-- all its images are accepted, else Trial. Accept: Regular when all are, else Trial. Select previous: Restart, into the
-- previous bank as it is
abbrev pub Fits : Change → (r new : List ℕ) → Type 0
Fits Nothing r new = StandsAs r new
Fits Begin r new = StandsAs r new × (staged_fits (update_bank_of r) 0 new ≡ true)
Fits (Commit i request) r new =
    StandsAs r new × ((bank set : ℕ) → staged_fits bank set r ≡ true → staged_fits bank (joined i set) new ≡ true)
Fits End r new = Stands new (update_bank_of r) (active r) (cond (all_accepted r (update_bank_of r)) accepted_bank valid)
Fits (Accept i) r new = Stands new (active r) (previous r) (cond (completes i r) accepted_bank valid)
Fits Exchange r new = Stands new (previous r) (active r) (state r (previous r))

abbrev pub CallsFit : Type 0
CallsFit = (r : List ℕ) → Bytes r → sound r ≡ true → (x : Change) → Names x r → Fits x r (changed_by x r)
