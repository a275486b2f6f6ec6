pub mod Sound
pub mod SoundMarket
