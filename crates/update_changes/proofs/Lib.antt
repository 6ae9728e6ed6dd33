-- Laws of stores that do not meet, of a record with one field anew, and of the banks of a sound one, for the proofs
-- here and in the crates above.
pub mod Words
pub mod Setting
pub mod Banks
