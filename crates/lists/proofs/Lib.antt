pub mod Bools
pub mod PlaceLaws
pub mod TestLaws
pub mod FirstLaws
pub mod ChooseLaws
pub mod LoopLaws
pub mod CountLaws
pub mod RunLaws
