pub mod Steps
pub mod Laws
pub mod Tally
pub mod Sound
