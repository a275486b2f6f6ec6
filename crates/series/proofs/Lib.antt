pub mod TermsLaws
pub mod SoundSeriesDecides
pub mod SeriesFacts
pub mod SetupSound
pub mod CheckLaws
