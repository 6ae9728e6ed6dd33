-- A record by its fields: those that the calls alter, and what each call makes of them (S6 to S17). Every other byte
-- but the CRC's stays. r is the bytes of the old record, new those of the new one. Assumes nothing.
use Rattle.std.specs.Prelude.{ℕ, ◌+◌, ◌≤◌, ◌<◌, ◌≡◌, ◌⊎◌, Bool, true, cond, ◌&&◌, List, eqb, get_or}
use Rattle.fields.specs.Number.{Bytes}
use Rattle.record_layout.specs.Every.{below}
use Rattle.record_layout.specs.Layout.{bank_limit, crc_at, active_at, previous_at, state_at, accepted_at, active, previous, state, bank_count, image_count, type_guid, accepted}
use Rattle.record_layout.specs.Rules.{invalid, valid, accepted_bank, sound}
use Rattle.update_changes.specs.NewRecord.{update_bank_of}
use Rattle.update_changes.specs.Changed.{changed_by, Names}
use Rattle.update_changes.specs.declared.Change.{Change}
use Rattle.update_changes.specs.declared.Change.TheVariants.{Nothing, Begin, Commit, End, Accept, Exchange}

-- the active bank, the previous one, the state of each bank, and whether each image is accepted in each bank
pub record Fields : Type 0 where
  pub active_bank : ℕ
  pub previous_bank : ℕ
  pub states : (b : ℕ) → ℕ
  pub flags : (i b : ℕ) → ℕ

abbrev pub fields_of : List ℕ → Fields
fields_of r = record { active_bank = active r; previous_bank = previous r; states = state r; flags = accepted r }

-- one of them anew
abbrev pub with_active : ℕ → Fields → Fields
with_active b f = record { active_bank = b; previous_bank = f.previous_bank; states = f.states; flags = f.flags }

abbrev pub with_previous : ℕ → Fields → Fields
with_previous b f = record { active_bank = f.active_bank; previous_bank = b; states = f.states; flags = f.flags }

abbrev pub with_state : (b s : ℕ) → Fields → Fields
with_state b s f =
    record {
      active_bank = f.active_bank;
      previous_bank = f.previous_bank;
      states = λ c. cond (eqb c b) s (f.states c);
      flags = f.flags;
    }

abbrev pub with_flag : (i b flag : ℕ) → Fields → Fields
with_flag i b flag f =
    record {
      active_bank = f.active_bank;
      previous_bank = f.previous_bank;
      states = f.states;
      flags = λ j c. cond (eqb c b && eqb j i) flag (f.flags j c);
    }

-- every image of bank b is accepted
abbrev pub all_in : (images b : ℕ) → Fields → Bool
all_in images b f = below images (λ i. eqb (f.flags i b) 1)

-- Begin, with the update bank u: 255, all images unaccepted (S6)
abbrev pub begun : (u : ℕ) → Fields → Fields
begun u f =
    record {
      active_bank = f.active_bank;
      previous_bank = f.previous_bank;
      states = λ b. cond (eqb b u) invalid (f.states b);
      flags = λ i b. cond (eqb b u) 0 (f.flags i b);
    }

-- Commit of image i: accepted by request 0 (S8)
abbrev pub committed : (i request u : ℕ) → Fields → Fields
committed i request u f = with_flag i u (cond (eqb request 0) 1 0) f

-- End: 252 if all are accepted, else 254; previous takes active, active the update bank (S10)
abbrev pub ended : (images u : ℕ) → Fields → Fields
ended images u f =
    with_active u (with_previous f.active_bank (with_state u (cond (all_in images u f) accepted_bank valid) f))

-- Accept of image i, in the active bank (S13)
abbrev pub marked_in : ℕ → Fields → Fields
marked_in i f = with_flag i f.active_bank 1 f

-- and when all are, the bank is 252
abbrev pub accepted_of : (images i : ℕ) → Fields → Fields
accepted_of images i f =
    cond (all_in images f.active_bank (marked_in i f)) (with_state f.active_bank accepted_bank (marked_in i f)) (marked_in i f)

-- Select previous (S16)
abbrev pub exchanged : Fields → Fields
exchanged f = with_active f.previous_bank (with_previous f.active_bank f)

-- byte k lies outside the n bytes from p on
abbrev pub OutsideField : (p n k : ℕ) → Type 0
OutsideField p n k = (k < p) ⊎ (p + n ≤ k)

-- byte k belongs to none of those fields, nor to the CRC
pub record Elsewhere (banks images k : ℕ) : Type 0 where
  pub off_crc : OutsideField crc_at 4 k
  pub off_active : OutsideField active_at 4 k
  pub off_previous : OutsideField previous_at 4 k
  pub off_states : OutsideField (state_at 0) bank_limit k
  pub off_flags : (i b : ℕ) → i < images → b < banks → OutsideField (accepted_at banks i b) 4 k

-- the new record read: it has those fields; each byte elsewhere is the old record's, so it has as many banks and
-- images, of the same types
pub record FieldsAre (r new : List ℕ) (f : Fields) : Type 0 where
  pub active_is : active new ≡ f.active_bank
  pub previous_is : previous new ≡ f.previous_bank
  pub state_is : (b : ℕ) → b < bank_limit → state new b ≡ f.states b
  pub flag_is : (i b : ℕ) → i < image_count r → b < bank_count r → accepted new i b ≡ f.flags i b
  pub stays : (k : ℕ) → Elsewhere (bank_count r) (image_count r) k → get_or new k 0 ≡ get_or r k 0
  pub banks_is : bank_count new ≡ bank_count r
  pub images_is : image_count new ≡ image_count r
  pub type_is : (i : ℕ) → type_guid new i ≡ type_guid r i

-- what a change makes of them; each call makes one (crates/update_changes/specs/Changed.antt)
abbrev pub fields_after : Change → (r : List ℕ) → Fields → Fields
fields_after Nothing r f = f
fields_after Begin r f = begun (update_bank_of r) f
fields_after (Commit i request) r f = committed i request (update_bank_of r) f
fields_after End r f = ended (image_count r) (update_bank_of r) f
fields_after (Accept i) r f = accepted_of (image_count r) i f
fields_after Exchange r f = exchanged f

-- the record that it makes, read
abbrev pub CallsMake : Type 0
CallsMake =
    (r : List ℕ) → Bytes r → sound r ≡ true → (x : Change) → Names x r → FieldsAre r (changed_by x r) (fields_after x r (fields_of r))
