-- What a directory that is taken is known by, for the proofs here and in the crates above.
pub mod Taken
