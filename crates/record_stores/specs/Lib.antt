-- Lists of stores. Assumes nothing.
pub mod Stores
pub mod Added
