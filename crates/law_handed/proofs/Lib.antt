pub mod Counted
pub mod Laws
pub mod Before
pub mod Small
