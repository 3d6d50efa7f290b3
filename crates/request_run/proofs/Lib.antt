pub mod Small
pub mod Laws
pub mod Whole
