pub mod Judging
pub mod Lateness
