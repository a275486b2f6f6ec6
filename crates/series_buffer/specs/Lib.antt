pub mod Header
pub mod Entry
pub mod Place
pub mod State
