pub mod Lines
pub mod Records
pub mod Said
pub mod Texts
pub mod Theorems
