-- An example of a report (T1 to T5). Assumes nothing.
pub mod Example
