pub mod Pairs
pub mod Buffer
pub mod Signatures
pub mod Steps
