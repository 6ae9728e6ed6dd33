-- The verdict on a capsule, and where its items lie (C8 to C13, N10 to N16). Assumes nothing.
pub mod Verdict
pub mod Item
