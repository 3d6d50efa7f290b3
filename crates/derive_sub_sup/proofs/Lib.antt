pub mod Bytes
pub mod Codes
pub mod Turns
pub mod Ends
