-- Laws of the report's lines, for the proofs here and the report above.
pub mod Known
pub mod Lengths
pub mod Rows
