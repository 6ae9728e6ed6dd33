-- Laws about the definitions of specs/, for the proofs here and in the crates above.
pub mod Body
pub mod Ranged
