pub mod CodecLaws
pub mod MessageLaws
pub mod ReportLaws
pub mod SetupLaws
pub mod RoomLaws
