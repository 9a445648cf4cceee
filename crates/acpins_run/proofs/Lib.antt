pub mod Cutting
pub mod HexFiles
pub mod Runs
pub mod Orders
pub mod HostFailures
pub mod AnyOrder
pub mod StoredFiles
pub mod Refused
