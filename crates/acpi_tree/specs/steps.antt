pub mod Equality
pub mod TermEquality
