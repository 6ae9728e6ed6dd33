-- Laws of texts and of writing them, for the proofs here and in the crates above.
pub mod Digits
pub mod Writing
pub mod Lines
