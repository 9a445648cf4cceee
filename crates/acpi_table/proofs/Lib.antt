mod Choices
pub mod PkgLengths
pub mod TableLaws
pub mod StreamLaws
