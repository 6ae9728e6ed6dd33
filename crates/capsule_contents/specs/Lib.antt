-- What a capsule is packed from, and its bytes; what is lent to the packer (C26 to C30). Assumes nothing.
pub mod Contents
pub mod Lent
pub mod Sizes
pub mod Given
