-- The proof. Assumes nothing.
pub mod Lists
pub mod PowerCuts
