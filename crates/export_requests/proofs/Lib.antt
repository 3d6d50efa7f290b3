pub mod Cut
pub mod Handing
