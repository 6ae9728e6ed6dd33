-- A record with some of its words anew. Assumes nothing.
pub mod Fields
pub mod Altered
