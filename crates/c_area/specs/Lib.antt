-- What the exported functions of an area answer, in numbers and lent memory alone. Assumes nothing.
pub mod Soundness
