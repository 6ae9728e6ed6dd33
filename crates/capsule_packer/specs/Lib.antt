-- The packer. Assumes nothing.
pub mod Packer
