-- A sample record, and the calls on it. Assumes nothing.
pub mod Record
pub mod Calls
