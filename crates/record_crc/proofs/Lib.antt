-- Laws of CRC-32: Register for the crates above; Division and Lookup on why a lookup in the table is eight steps.
pub mod Register
pub mod Division
pub mod Lookup
