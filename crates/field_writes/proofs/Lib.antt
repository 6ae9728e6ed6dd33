-- What a write through a part of a slice leaves, for the proofs here.
mod Written
