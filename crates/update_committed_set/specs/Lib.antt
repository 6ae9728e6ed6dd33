-- The set of committed images. Assumes nothing.
pub mod Set
pub mod SetLaws
