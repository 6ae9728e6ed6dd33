-- The exported start-up and repair. Assumes nothing.
pub mod Exported
