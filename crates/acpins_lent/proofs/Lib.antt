pub mod Ascii
pub mod Joins
