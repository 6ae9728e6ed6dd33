-- The proof. Assumes nothing.
pub mod Places
pub mod Says
pub mod Good
pub mod Carried
pub mod Calls
pub mod Kept
pub mod Again
pub mod Fits
