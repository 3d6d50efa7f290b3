pub mod Small
pub mod Handing
