pub mod CheckLaws
pub mod ServeLaws
pub mod ServeFacts
pub mod ExplainLaws
pub mod ExplainFacts
