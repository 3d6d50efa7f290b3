pub mod Lines
pub mod Clean
pub mod Numbers
pub mod Text
pub mod Sheet
