pub mod Loading
pub mod Running
