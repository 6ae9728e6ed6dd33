-- The reader of an image directory. Assumes nothing.
pub mod Reader
