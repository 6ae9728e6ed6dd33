-- The writer of an image directory. Assumes nothing.
pub mod Writer
pub mod Step
