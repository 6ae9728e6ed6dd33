-- Laws of the list of a change, for the proofs here and in the crates above.
pub mod Listing
