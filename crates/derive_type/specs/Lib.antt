pub mod NewType
