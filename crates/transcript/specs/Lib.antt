pub mod WhyLines
pub mod Transcript
pub mod Held
