-- What an accepted call tells, for the proofs in the crates above.
pub mod Tells
pub mod Fits
