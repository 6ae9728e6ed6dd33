-- The place for the gathered blocks. Assumes nothing.
pub mod Place
pub mod Law
pub mod Search
