pub mod Chained
pub mod Steps
