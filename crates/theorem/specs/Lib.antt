pub mod Shown
pub mod OfStates
pub mod OfBytes
pub mod Scripted
pub mod Listed
pub mod Doors
