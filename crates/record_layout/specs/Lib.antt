-- The record: its layout and the rules of soundness. Assumes nothing.
pub mod Layout
pub mod Every
pub mod Rules
pub mod Sized
