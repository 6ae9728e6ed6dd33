-- The record that each call makes of the old one. Assumes nothing.
pub mod NewRecord
pub mod Changed
