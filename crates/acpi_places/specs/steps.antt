pub mod Walking
pub mod Adding
