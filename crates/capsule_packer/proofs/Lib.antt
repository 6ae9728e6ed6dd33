-- What the packer answers, step by step, for the proofs here and in the crates above.
pub mod Steps
