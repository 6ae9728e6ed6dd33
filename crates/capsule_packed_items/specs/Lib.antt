-- The steps in which a capsule is written. Assumes nothing.
pub mod Step
