-- What the definitions of capsules compute. Assumes nothing.
pub mod Samples
