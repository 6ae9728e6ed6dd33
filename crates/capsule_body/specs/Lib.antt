-- The layout of a capsule's body, and the rules on it (C6 to C12). Assumes nothing.
pub mod Body
