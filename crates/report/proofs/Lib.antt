pub mod Decoding
pub mod Judged
pub mod Reading
pub mod Telling
pub mod Trusted
