-- The refusals' numbers. Assumes nothing.
pub mod Number
