-- What is written is read back, and the other way round. Assumes nothing.
pub mod RoundTrip
pub mod Example
