pub mod Facts
pub mod SoundFacts
pub mod MarketFacts
pub mod FrontLaws
pub mod TradeLaws
pub mod KeepLaws
