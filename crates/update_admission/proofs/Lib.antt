-- 20, 23, 21 and 22 by the copy that is read, for the proofs here and in the crates above.
pub mod Area
