-- What is packed is read, and what is read is packed again. Assumes nothing.
pub mod Tight
pub mod RoundTrip
pub mod Example
