pub mod Recoded
pub mod Relisted
pub mod Rewritten
pub mod Recoding
pub mod SpelledCodes
pub mod Shortened
pub mod OneRewriting
