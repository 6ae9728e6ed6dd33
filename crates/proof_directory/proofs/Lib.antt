-- The promises on image directories, proved. Assumes nothing.
pub mod Taken
pub mod Installed
pub mod WitnessRecord
pub mod WitnessRules
pub mod WitnessArea
pub mod Shown
pub mod RoundTrip
