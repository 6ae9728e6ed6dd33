-- Every accepted call keeps the record sound. Assumes nothing.
pub mod Fields
pub mod Kept
pub mod Fits
