-- How many items a capsule has. Assumes nothing.
pub mod Count
