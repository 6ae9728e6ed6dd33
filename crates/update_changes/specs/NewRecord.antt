-- The record that each call makes (S4 to S17). r is the bytes of the old record. Assumes nothing.
use Rattle.std.specs.Prelude.{ℕ, zero, suc, Bool, cond, List, eqb}
use Rattle.fields.specs.Guid.{same}
use Rattle.record_layout.specs.Layout.{active, previous, bank_count, image_count, type_guid, update_bank}
use Rattle.record_layout.specs.Every.{least}
use Rattle.record_alterations.specs.Fields.{set_active, set_previous, set_state, set_accepted, with_crc}
use Rattle.record_layout.specs.Rules.{invalid, valid, accepted_bank, all_accepted}

-- the update bank (S4)
abbrev pub update_bank_of : List ℕ → ℕ
update_bank_of r = update_bank (bank_count r) (active r)

-- the image with that type GUID, or the image count where no entry has it
unfoldable pub image_with : (g r : List ℕ) → ℕ
image_with g r = least (image_count r) (λ i. same (type_guid r i) g)

-- the images below n unaccepted in bank b
unfoldable pub unaccepted_below : (n b : ℕ) → List ℕ → List ℕ
unaccepted_below zero b r = r
unaccepted_below (suc n) b r = set_accepted n b 0 (unaccepted_below n b r)

-- Begin: the update bank 255 with all images unaccepted (S6)
unfoldable pub begun_record : List ℕ → List ℕ
begun_record r = with_crc (unaccepted_below (image_count r) (update_bank_of r) (set_state (update_bank_of r) invalid r))

-- Commit of image i, in the bank that is being staged, which is the update bank (S8)
unfoldable pub committed_record : (i request : ℕ) → List ℕ → List ℕ
committed_record i request r = with_crc (set_accepted i (update_bank_of r) (cond (eqb request 0) 1 0) r)

-- End: the update bank 252 or 254, and active (S10)
unfoldable pub ended_record : List ℕ → List ℕ
ended_record r =
    with_crc
    (set_active (update_bank_of r)
    (set_previous (active r) (set_state (update_bank_of r) (cond (all_accepted r (update_bank_of r)) accepted_bank valid) r)))

-- Accept of image i, in the active bank (S13). S14 is a consequence for a sound record, by R7, R14 and R17 to R19
unfoldable pub marked : ℕ → List ℕ → List ℕ
marked i r = set_accepted i (active r) 1 r

-- every image of the active bank is accepted then
abbrev pub completes : ℕ → List ℕ → Bool
completes i r = all_accepted (marked i r) (active r)

-- and where it is, the bank is 252
unfoldable pub accepted_record : ℕ → List ℕ → List ℕ
accepted_record i r = with_crc (cond (completes i r) (set_state (active r) accepted_bank (marked i r)) (marked i r))

-- Select previous: active and previous exchanged (S16)
unfoldable pub exchanged_record : List ℕ → List ℕ
exchanged_record r = with_crc (set_active (previous r) (set_previous (active r) r))
