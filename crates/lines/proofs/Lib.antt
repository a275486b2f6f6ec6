pub mod Counting
pub mod DecimalLaws
pub mod BufferLaws
pub mod TextLaws
pub mod LineLaws
pub mod AnswerLaws
pub mod Examples
