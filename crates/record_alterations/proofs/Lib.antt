-- Laws of altered records, for the proofs here and in the crates above.
pub mod Places
pub mod Words
pub mod Same
pub mod Stays
