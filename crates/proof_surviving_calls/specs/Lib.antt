-- The calls and repair, tied to the statement on power cuts. Assumes nothing.
pub mod Tied
