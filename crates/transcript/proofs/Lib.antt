pub mod WhyLaws
pub mod TextLaws
pub mod WhyPrinted
pub mod HeldLaws
pub mod SetupLaws
pub mod Progress
pub mod Rounds
