-- The exported calls under power cuts.
pub mod ExportedCalls
