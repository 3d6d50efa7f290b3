pub mod Going
pub mod Laws
pub mod Walk
