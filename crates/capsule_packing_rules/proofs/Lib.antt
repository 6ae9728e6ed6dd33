-- Laws of the sizes of what is packed, for the proofs here and in the crates above; of the answers here.
-- Assumes nothing.
pub mod Sizes
pub mod Steps
