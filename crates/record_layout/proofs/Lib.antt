-- Laws about the definitions of specs/, for the proofs here and in the crates above.
pub mod Sizes
pub mod Below
pub mod Every
pub mod Sound
pub mod Copies
