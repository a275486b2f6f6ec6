pub mod Tell
pub mod Stage
pub mod Lent
