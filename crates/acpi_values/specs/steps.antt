pub mod Reading
pub mod Cursor
pub mod Registers
