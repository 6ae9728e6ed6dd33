-- Repair. Assumes nothing.
pub mod Repair
