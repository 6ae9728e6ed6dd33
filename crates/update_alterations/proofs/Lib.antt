-- The alteration of each change makes its record.
pub mod Making
