-- The proof of the theorem. Assumes nothing.
pub mod Runs
pub mod Copy
pub mod Cut
pub mod Theorem
