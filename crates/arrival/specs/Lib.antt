pub mod Cancel
pub mod Take
pub mod Post
pub mod Arrive
pub mod Asks
