pub mod Requested
pub mod Ran
