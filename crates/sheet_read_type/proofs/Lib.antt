pub mod Readings
pub mod Stored
