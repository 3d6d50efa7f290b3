pub mod Serves
pub mod Known
