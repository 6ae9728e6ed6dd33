-- What the entries hand out of what an item holds. Assumes nothing.
pub mod Parts
