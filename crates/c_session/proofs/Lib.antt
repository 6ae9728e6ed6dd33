-- Laws of sessions in numbers, for whoever calls from C. Assumes nothing.
pub mod Sessions
