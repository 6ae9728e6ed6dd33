-- Laws of a directory's bytes, for the proofs in the crates above.
pub mod Written
pub mod Read
