pub mod Given
pub mod Operands
