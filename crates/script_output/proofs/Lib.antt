pub mod Buffer
pub mod Cases
pub mod Laws
pub mod Rows
pub mod Short
pub mod Whole
