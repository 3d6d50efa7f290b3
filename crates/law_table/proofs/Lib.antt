pub mod Exact
pub mod Methods
pub mod Whole
