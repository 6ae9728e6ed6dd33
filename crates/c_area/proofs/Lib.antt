-- The soundness of an area in a number, for the proofs here.
pub mod Bits
