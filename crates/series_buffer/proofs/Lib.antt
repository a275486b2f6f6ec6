pub mod TableLaws
pub mod HeaderLaws
pub mod EntryLaws
pub mod PlaceLaws
pub mod PlacesLaws
pub mod StateLaws
pub mod RoundTrip
pub mod SoundPacks
