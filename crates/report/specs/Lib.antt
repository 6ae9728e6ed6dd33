-- The report. Assumes nothing.
pub mod Report
