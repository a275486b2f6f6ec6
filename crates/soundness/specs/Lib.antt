pub mod SoundBook
pub mod Summary
