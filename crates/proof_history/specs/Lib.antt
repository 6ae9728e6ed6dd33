-- One history of start-ups, repairs and calls. Assumes nothing.
pub mod History
pub mod HistoryLaws
