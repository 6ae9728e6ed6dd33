-- The entries of the directory that is written. Assumes nothing.
pub mod Installed
