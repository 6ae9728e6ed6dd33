-- The proof of the theorem at record version 2. Assumes nothing.
pub mod Words
pub mod Plan
pub mod Version2
pub mod Cuts
pub mod Offsets
