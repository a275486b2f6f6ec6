pub mod RankLaws
pub mod Rules
pub mod Judging
pub mod Turning
pub mod Whole
