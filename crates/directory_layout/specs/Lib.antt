-- The image directory: what it holds, and its bytes. Assumes nothing.
pub mod Layout
