pub mod Handed
pub mod Result
