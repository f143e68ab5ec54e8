pub mod Lines
pub mod Problems
pub mod RoundTrips
pub mod Taking
pub mod Texts
pub mod Theorems
pub mod Turned
