-- The layout of a capsule's header and the rules on it (C1 to C6). Assumes nothing.
pub mod Header
