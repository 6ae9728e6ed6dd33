-- Laws of the entries that are written, for the proofs here and in the crates above.
pub mod Guids
