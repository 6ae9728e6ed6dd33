-- The scattered list of block descriptors. Assumes nothing.
pub mod Reading
pub mod Scratch
pub mod Law
