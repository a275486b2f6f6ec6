pub mod Check
pub mod Explain
pub mod Serve
