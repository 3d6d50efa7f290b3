pub mod Readings
pub mod Stored
pub mod Accepted
