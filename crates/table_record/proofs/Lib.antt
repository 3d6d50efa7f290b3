pub mod Lists
pub mod Laws
pub mod Tables
pub mod Linked
pub mod Codes
