pub mod Arguments
pub mod Grammars
pub mod Spelling
pub mod Declarations
pub mod Refusals
pub mod Faults
pub mod Texts
pub mod steps
