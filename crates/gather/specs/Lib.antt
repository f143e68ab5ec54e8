pub mod Filing
pub mod Growth
pub mod Indexes
pub mod Lents
pub mod Levels
pub mod Tables
