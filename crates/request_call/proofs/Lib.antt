pub mod Laws
pub mod Calling
