-- Laws about the copies, for the crates above.
pub mod Reading
