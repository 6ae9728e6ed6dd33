-- Laws of start-up's answer, for the proofs here and in the crates above.
pub mod Reading
