-- What the exported function of gathering answers, in numbers and lent memory alone. Assumes nothing.
pub mod Gather
