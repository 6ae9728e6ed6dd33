-- What the functions that make an alteration answer. Assumes nothing.
pub mod Makes
