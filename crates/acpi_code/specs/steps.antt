pub mod Opcodes
pub mod Remaining
pub mod Within
pub mod Reading
pub mod Fields
pub mod Cursor
