pub mod Methods
pub mod Types
pub mod Loop
