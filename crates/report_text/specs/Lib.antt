-- Lines of text, and writing them. Assumes nothing.
pub mod Text
pub mod Wrote
