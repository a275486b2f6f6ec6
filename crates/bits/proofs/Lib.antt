pub mod FieldLaws
pub mod ByteLaws
pub mod ReadLaws
pub mod WriteLaws
pub mod TestLaws
