-- What is shown of an item. Assumes nothing.
pub mod Shown
