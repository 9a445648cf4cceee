pub mod Adding
pub mod Refusals
