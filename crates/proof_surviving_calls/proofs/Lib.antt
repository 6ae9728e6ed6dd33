-- The proofs.
pub mod Ties
