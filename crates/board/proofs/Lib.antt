pub mod BoardLaws
pub mod OrderLaws
pub mod PlaceLaws
