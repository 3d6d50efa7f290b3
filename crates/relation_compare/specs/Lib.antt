pub mod Comparing
pub mod Pairs
