-- The memory window. Assumes nothing.
pub mod Window
