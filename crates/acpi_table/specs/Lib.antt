pub mod Gives
pub mod PkgLength
pub mod Tables
pub mod Texts
pub mod Sources
pub mod steps
