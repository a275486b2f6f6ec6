pub mod ShapeLaws
pub mod ChangeLaws
pub mod OfferLaws
pub mod LookLaws
pub mod NumberLaws
pub mod RankLaws
