pub mod Entries
pub mod Shape
pub mod Change
pub mod Look
