-- The blocks of a scattered list, and what their copy asks. Assumes nothing.
pub mod Blocks
pub mod Copy
