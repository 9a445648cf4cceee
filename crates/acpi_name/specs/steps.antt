pub mod PathOrder
pub mod NameOrder
pub mod TextReading
pub mod NameKept
