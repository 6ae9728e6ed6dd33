-- Laws of the calls, for the proofs here and in the crates above.
pub mod Named
pub mod Answered
pub mod CallLaws
