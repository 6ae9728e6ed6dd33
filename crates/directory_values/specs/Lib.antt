-- What is shown of a directory's entries. Assumes nothing.
pub mod Values
