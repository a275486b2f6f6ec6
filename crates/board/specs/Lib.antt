pub mod Board
pub mod Held
