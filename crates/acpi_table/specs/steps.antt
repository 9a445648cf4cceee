pub mod PkgLengthRead
pub mod Taking
