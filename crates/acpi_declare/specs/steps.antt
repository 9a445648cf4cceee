pub mod Outcomes
pub mod Adding
