-- Laws of the report, for the proofs here and in the crates above.
pub mod Whole
