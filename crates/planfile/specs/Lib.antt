pub mod Numbers
pub mod Files
pub mod Tests
pub mod Readers
pub mod Reads
pub mod Writes
pub mod Theorems
