pub mod Asked
pub mod Squares
