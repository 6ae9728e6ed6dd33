-- The report's lines of a record. Assumes nothing.
pub mod Lines
