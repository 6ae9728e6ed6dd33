-- The two copies of the record. Assumes nothing.
pub mod Copies
