pub mod Outcome
pub mod Back
pub mod Served
