-- Every accepted call keeps the record sound (S19). No rule asks it; P4 needs it, since only a sound record is read. r
-- is the bytes of the old record, i an image of it, request the one that Commit is given. Assumes nothing.
use Rattle.std.specs.Prelude.{ℕ, ◌<◌, ◌≡◌, true, List, length}
use Rattle.fields.specs.Number.{Bytes}
use Rattle.record_layout.specs.Layout.{active, previous, state, image_count, accepted}
use Rattle.record_layout.specs.Rules.{invalid, accepted_bank, sound}
use Rattle.update_changes.specs.NewRecord.{update_bank_of}
use Rattle.update_changes.specs.Changed.{changed_by}
use Rattle.update_changes.specs.declared.Change.{Change}
use Rattle.update_changes.specs.declared.Change.TheVariants.{Nothing, Begin, Commit, End, Accept, Exchange}

-- the new record is sound, bytes, and as long as the old one
pub record Kept (r new : List ℕ) : Type 0 where
  pub is_sound : sound new ≡ true
  pub bytes : Bytes new
  pub long : length new ≡ length r

-- the update bank is 255
abbrev pub Staged : List ℕ → Type 0
Staged r = state r (update_bank_of r) ≡ invalid

-- What the tests of a call have made sure of when its change is made: Commit and Accept name an image that the record
-- has (26), the bank being staged is 255 (24), the previous bank that is selected is 252 (25)
abbrev pub Asks : Change → (r : List ℕ) → Type 0
Asks Nothing r = Unit {0}
Asks Begin r = Unit {0}
Asks (Commit i request) r = (i < image_count r) × Staged r
Asks End r = Unit {0}
Asks (Accept i) r = i < image_count r
Asks Exchange r = state r (previous r) ≡ accepted_bank

abbrev pub CallsKeepSound : Type 0
CallsKeepSound = (r : List ℕ) → Bytes r → sound r ≡ true → (x : Change) → Asks x r → Kept r (changed_by x r)

-- What Commit asks of the bank being staged holds after Begin and after every Commit. And accepting an accepted image
-- changes nothing (S14)
pub record Follows (r : List ℕ) : Type 0 where
  pub begin_stages : Staged (changed_by Begin r)
  pub commit_stages : (i request : ℕ) → i < image_count r → Staged r → Staged (changed_by (Commit i request) r)
  pub accept_again : (i : ℕ) → i < image_count r → accepted r i (active r) ≡ 1 → changed_by (Accept i) r ≡ r

abbrev pub CallsFollow : Type 0
CallsFollow = (r : List ℕ) → Bytes r → sound r ≡ true → Follows r
