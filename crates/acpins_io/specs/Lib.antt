pub mod PartsWritten
pub mod Hexadecimal
pub mod Dump
pub mod steps
pub mod FilesWritten
pub mod Outputs
pub mod Faults
