-- What is tested of an area and a store slice. Assumes nothing.
pub mod Rows
