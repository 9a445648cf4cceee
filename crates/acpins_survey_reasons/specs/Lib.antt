pub mod Reasons
pub mod Numbered
