pub mod Rising
pub mod Pass
pub mod Exchange
pub mod Held
pub mod Forms
pub mod Exact
pub mod Cases
