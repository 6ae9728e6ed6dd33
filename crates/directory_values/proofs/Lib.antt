-- Where what is shown lies, for the proofs here and in the crates above.
pub mod Lies
