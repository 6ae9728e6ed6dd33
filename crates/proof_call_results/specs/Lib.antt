-- What an accepted call tells. Assumes nothing.
pub mod CallResults
