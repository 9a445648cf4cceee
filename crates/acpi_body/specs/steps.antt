pub mod Reading
pub mod Setting
pub mod Answers
pub mod BodyEquality
pub mod Gathering
