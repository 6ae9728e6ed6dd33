-- What the packer refuses, but for the room (N50 to N56), and the size. Assumes nothing.
pub mod Rules
