pub mod Numbered
pub mod Same
pub mod steps
