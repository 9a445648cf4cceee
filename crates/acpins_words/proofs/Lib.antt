pub mod Adding
mod DepthText
pub mod WordsAsked
