-- Laws of the steps in which a capsule is written, for the proofs here and in the crates above.
pub mod Puts
pub mod Offsets
pub mod Payloads
pub mod Items
pub mod Packing
