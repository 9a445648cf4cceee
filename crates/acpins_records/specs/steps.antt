pub mod Adding
pub mod AddingParts
pub mod Giving
pub mod Kinds
pub mod Room
pub mod Runs
pub mod Seeing
pub mod Spans
