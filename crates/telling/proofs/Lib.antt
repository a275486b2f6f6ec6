pub mod PackLaws
pub mod StageLaws
pub mod GoingLaws
pub mod Within
pub mod Staying
