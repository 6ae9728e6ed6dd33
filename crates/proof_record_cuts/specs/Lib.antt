-- Record version 2 under power cuts: as a format, the theorem of it, and the rules on lists of stores. Assumes nothing.
pub mod Version2
pub mod Cuts
pub mod Offsets
