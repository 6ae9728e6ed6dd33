-- What is shown of an entry of a directory (I10). d is the bytes of the slice that is lent. Assumes nothing.
use Rattle.std.specs.Prelude.{ℕ, ◌+◌, cond, List, ltb}
use Rattle.fields.specs.Part.{Range, range, empty_at_start}
use Rattle.refusal_order.specs.Decide.{decide}
use Rattle.directory_layout.specs.Layout.{EntryNumbers, images_in, entry_start, numbers_in}
use Rattle.directory_reader.specs.Reader.{reader_tests, if_taken}
use Rattle.directory_values.specs.declared.Numbers.{Numbers}

-- of entry k: x where there is one, z past the count
abbrev pub if_entry : {A : Type 0} → List ℕ → ℕ → (x z : A) → A
if_entry d k x z = cond (ltb k (images_in d)) x z

-- the range of its type GUID, or the empty part at the slice's start
unfoldable pub guid_range : List ℕ → ℕ → Range
guid_range d k = if_entry d k (range (entry_start k) (entry_start k + 16)) empty_at_start

unfoldable pub shown_guid : List ℕ → ℕ → Range
shown_guid d k = if_taken (decide (reader_tests d)) (guid_range d k) empty_at_start

-- its five numbers, or zeros
abbrev pub zero_numbers : EntryNumbers
zero_numbers = record { permissions = 0; maximum_size = 0; lowest_accepted_version = 0; version = 0; accepted = 0 }

unfoldable pub numbers_or_zeros : List ℕ → ℕ → EntryNumbers
numbers_or_zeros d k = if_entry d k (numbers_in d k) zero_numbers

unfoldable pub shown_numbers : List ℕ → ℕ → EntryNumbers
shown_numbers d k = if_taken (decide (reader_tests d)) (numbers_or_zeros d k) zero_numbers

-- what the code's own `Numbers` tells
abbrev pub numbers_of : Numbers → EntryNumbers
numbers_of n =
    record {
      permissions = n.permissions;
      maximum_size = n.maximum;
      lowest_accepted_version = n.lowest;
      version = n.version;
      accepted = n.accepted;
    }
