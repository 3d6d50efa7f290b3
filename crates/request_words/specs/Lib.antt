pub mod Words
pub mod Found
