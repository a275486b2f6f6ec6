pub mod Codec
pub mod Setup
pub mod Message
pub mod Report
pub mod Room
