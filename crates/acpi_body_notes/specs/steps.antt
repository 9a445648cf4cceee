pub mod LoadBytes
pub mod LoadCodes
