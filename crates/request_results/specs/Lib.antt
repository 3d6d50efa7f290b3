pub mod States
pub mod Stored
