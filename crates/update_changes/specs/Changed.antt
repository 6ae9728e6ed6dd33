-- The calls, and the record that each makes (S17). r is the bytes of the old record, g those of a type GUID. Assumes
-- nothing.
use Rattle.std.specs.Prelude.{ℕ, ◌<◌, List}
use Rattle.record_layout.specs.Layout.{image_count}
use Rattle.update_changes.specs.NewRecord.{image_with, begun_record, committed_record, ended_record, accepted_record, exchanged_record}
use Rattle.update_changes.specs.declared.Change.{Change}
use Rattle.update_changes.specs.declared.Change.TheVariants.{Nothing, Begin, Commit, End, Accept, Exchange}

-- a call, and what it is given beside the session, the area and the store slice
pub data Call : Type 0 where
  begin : Call
  commit : (g : List ℕ) (request : ℕ) → Call
  end : Call
  cancel : Call
  accept : (g : List ℕ) → Call
  select_previous : Call

-- what a call alters; Cancel nothing
unfoldable pub change_of : Call → (r : List ℕ) → Change
change_of begin r = Begin
change_of (commit g request) r = Commit (image_with g r) request
change_of end r = End
change_of cancel r = Nothing
change_of (accept g) r = Accept (image_with g r)
change_of select_previous r = Exchange

-- the record that it makes of r
unfoldable pub changed_by : Change → (r : List ℕ) → List ℕ
changed_by Nothing r = r
changed_by Begin r = begun_record r
changed_by (Commit i request) r = committed_record i request r
changed_by End r = ended_record r
changed_by (Accept i) r = accepted_record i r
changed_by Exchange r = exchanged_record r

-- the new record: the old with what the call alters, its CRC worked anew (S17)
unfoldable pub new_record : Call → (r : List ℕ) → List ℕ
new_record k r = changed_by (change_of k r) r

-- the image that a change names is one that the record has: what the functions that list a change ask
abbrev pub Names : Change → (r : List ℕ) → Type 0
Names Nothing r = Unit {0}
Names Begin r = Unit {0}
Names (Commit i request) r = i < image_count r
Names End r = Unit {0}
Names (Accept i) r = i < image_count r
Names Exchange r = Unit {0}
