pub mod Asked
pub mod FileTables
pub mod Texts
