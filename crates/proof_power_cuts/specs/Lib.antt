-- What power cuts leave, of the calls and entries themselves. Assumes nothing.
pub mod PowerCuts
