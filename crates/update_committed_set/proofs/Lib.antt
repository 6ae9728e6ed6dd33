-- Laws of the set, and what is known of a sound record's header, for the proofs here and in the crates above.
pub mod Bits
pub mod Known
pub mod Fits
pub mod SetLaws
