pub mod Filling
pub mod Rows
pub mod Codes
pub mod Laws
