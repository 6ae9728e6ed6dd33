-- What an alteration makes of a record, and what the functions over it ask. Nothing here is needed to read an entry's
-- promise. r is the bytes of a record. Assumes nothing.
use Rattle.std.specs.Prelude.{ℕ, zero, suc, ◌+◌, ◌*◌, ◌/◌, ◌≤◌, ◌<◌, List, ◌≡◌, length}
use Rattle.fields.specs.Number.{le, bytes, put}
use Rattle.record_layout.specs.Layout.{state_at, crc, active, previous, bank_count, image_count}
use Rattle.record_layout.specs.Rules.{crc_of}
use Rattle.record_layout.specs.Sized.{Sized}
use Rattle.record_alterations.specs.declared.Alteration.{Alteration}
use Rattle.record_alterations.specs.Fields.{set_active, set_previous, set_accepted, with_crc}

-- images first to first + n - 1 of bank b, each with that flag
unfoldable pub flagged : (n first b flag : ℕ) → List ℕ → List ℕ
flagged zero first b flag r = r
flagged (suc n) first b flag r = set_accepted (first + n) b flag (flagged n first b flag r)

-- the record with the words that an alteration names; the CRC is not worked anew here
unfoldable pub altered_by : Alteration → List ℕ → List ℕ
altered_by x r =
    flagged x.count x.first x.bank x.flag
    (put (set_previous x.previous (set_active x.active r)) (state_at 0) (bytes 4 x.states))

-- the record that it makes, its CRC worked anew
abbrev pub record_with : Alteration → List ℕ → List ℕ
record_with x r = with_crc (altered_by x r)

-- it names banks and images that the record has
pub record Within (x : Alteration) (r : List ℕ) : Type 0 where
  pub bank : x.bank < bank_count r
  pub images : x.first + x.count ≤ image_count r

-- each word as it is, and no image's
abbrev pub as_it_is : List ℕ → Alteration
as_it_is r = record { active = active r; previous = previous r; states = le 4 r (state_at 0); bank = 0; first = 0; count = 0; flag = 0 }

-- it alters nothing: neither the record nor its CRC is another
pub record Unaltered (x : Alteration) (r : List ℕ) : Type 0 where
  pub is : x ≡ as_it_is r
  pub within : Within x r
  pub crc_is : crc r ≡ crc_of (altered_by x r)
  pub stays : record_with x r ≡ r

-- a record in which it can be made: as long as its counts say
pub record Alterable (x : Alteration) (r : List ℕ) (banks : ℕ) : Type 0 where
  pub sized : Sized r banks (image_count r)
  pub within : Within x r

-- a word of the record at o, from `first` on
pub record Word (r : List ℕ) (first o : ℕ) : Type 0 where
  pub low : first ≤ o
  pub whole : 4 * (o / 4) ≡ o
  pub inside : o + 4 ≤ length r
