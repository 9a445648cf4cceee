pub mod Printing
pub mod BodyAt
pub mod PathTexts
pub mod Wholes
