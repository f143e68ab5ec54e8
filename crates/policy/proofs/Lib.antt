pub mod Lawful
pub mod Rows
