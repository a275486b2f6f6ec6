pub mod AcceptLaws
pub mod ExplainLaws
pub mod WhyTrue
