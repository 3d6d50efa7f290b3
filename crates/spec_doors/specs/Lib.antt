pub mod Times
pub mod Held
pub mod Paired
pub mod Input
pub mod Output
