-- Laws about the parts of an item, for the proofs here.
pub mod Parts
