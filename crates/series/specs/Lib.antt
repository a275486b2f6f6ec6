pub mod Series
pub mod SoundSeries
pub mod Checks
