-- Power cuts over a record's format alone: an area under stores, what is asked of a format and of a writer, and the
-- theorem. Assumes nothing.
pub mod Area
pub mod Format
pub mod Theorem
