-- Laws about the rules on entries, for the proofs here.
pub mod Words
