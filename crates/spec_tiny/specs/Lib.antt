pub mod Tiny
pub mod Numbered
pub mod Order
pub mod Every
