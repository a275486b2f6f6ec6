pub mod Asked
pub mod Refuse
pub mod Accept
pub mod Handle
pub mod Acts
