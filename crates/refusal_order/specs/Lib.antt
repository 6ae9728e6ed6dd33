-- Verdicts, and lists of tests of which the first that finds a fault decides. Assumes nothing.
pub mod Decide
