pub mod Index
pub mod Refusal
