-- What an exported function returns and sets. Assumes nothing.
pub mod Replied
