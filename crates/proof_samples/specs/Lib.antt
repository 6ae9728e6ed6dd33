-- The customer's samples that are proved together. Assumes nothing.
pub mod Windows
pub mod Samples
