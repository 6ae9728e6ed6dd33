-- Gathering a scattered capsule. Assumes nothing.
pub mod Gather
pub mod Law
