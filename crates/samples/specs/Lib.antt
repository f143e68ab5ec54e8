pub mod Example
pub mod Mixtures
pub mod Plans
pub mod Samples
