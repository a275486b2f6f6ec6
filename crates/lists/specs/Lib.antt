pub mod Places
pub mod Tests
pub mod Choose
pub mod Run
