pub mod HexFiles
pub mod Reading
