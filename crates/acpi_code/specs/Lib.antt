pub mod Opcodes
pub mod Spelling
pub mod Fields
pub mod Faults
pub mod Forms
pub mod FixedArguments
pub mod Laws
pub mod steps
