-- The exported calls under power cuts. Assumes nothing.
pub mod ExportedCalls
