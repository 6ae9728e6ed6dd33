-- The laws of a history, for the proofs in the crates above.
pub mod HistoryLaws
