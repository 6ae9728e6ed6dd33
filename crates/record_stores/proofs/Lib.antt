-- Laws of lists of stores, for the proofs here and in the crates above.
pub mod Laid
pub mod Listable
