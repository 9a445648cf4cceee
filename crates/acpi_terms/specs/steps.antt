pub mod Data
pub mod Reading
pub mod Cursor
pub mod ScopeBlocks
