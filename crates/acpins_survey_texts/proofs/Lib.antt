pub mod Differing
pub mod Problems
