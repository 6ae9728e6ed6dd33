-- Start-up. Assumes nothing.
pub mod StartUp
